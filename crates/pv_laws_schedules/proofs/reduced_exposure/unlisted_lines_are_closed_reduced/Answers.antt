use Rattle.pv_laws_schedules.proofs.ReducedExposureLines.{unlisted-closed_reduced}
use Rattle.pv_laws_schedules.proofs.reduced_exposure.unlisted_lines_are_closed_reduced.Goals as goal

pub returns : goal.returns
returns c = unlisted-closed_reduced
