use Rattle.pv_laws_schedules.proofs.UnlistedRuns.{unlisted-runs_reduced}
use Rattle.pv_laws_schedules.proofs.reduced_exposure.unlisted_lines_run_alike_reduced.Goals as goal

pub returns : goal.returns
returns c = unlisted-runs_reduced
