use Rattle.pv_laws_schedules.proofs.UnlistedRuns.{unlisted-sealed_reduced}
use Rattle.pv_laws_schedules.proofs.reduced_exposure.unlisted_files_are_sealed_reduced.Goals as goal

pub returns : goal.returns
returns c = unlisted-sealed_reduced
