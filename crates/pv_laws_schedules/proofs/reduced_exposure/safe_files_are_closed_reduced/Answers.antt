use Rattle.pv_laws_schedules.proofs.ReducedExposureLines.{safe-files_reduced}
use Rattle.pv_laws_schedules.proofs.reduced_exposure.safe_files_are_closed_reduced.Goals as goal

pub returns : goal.returns
returns c = safe-files_reduced
