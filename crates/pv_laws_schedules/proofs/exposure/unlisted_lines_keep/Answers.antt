use Rattle.pv_laws_schedules.proofs.UnlistedRuns.{unlisted-keep}
use Rattle.pv_laws_schedules.proofs.exposure.unlisted_lines_keep.Goals as goal

pub returns : goal.returns
returns c = unlisted-keep
