use Rattle.pv_laws_schedules.proofs.UnlistedRuns.{unlisted-seal}
use Rattle.pv_laws_schedules.proofs.exposure.unlisted_lines_seal.Goals as goal

pub returns : goal.returns
returns c = unlisted-seal
