use Rattle.pv_laws_schedules.proofs.UnlistedRuns.{unlisted-sealed}
use Rattle.pv_laws_schedules.proofs.exposure.unlisted_files_are_sealed.Goals as goal

pub returns : goal.returns
returns c = unlisted-sealed
