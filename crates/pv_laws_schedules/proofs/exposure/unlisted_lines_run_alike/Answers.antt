use Rattle.pv_laws_schedules.proofs.UnlistedRuns.{unlisted-runs}
use Rattle.pv_laws_schedules.proofs.exposure.unlisted_lines_run_alike.Goals as goal

pub returns : goal.returns
returns c = unlisted-runs
