use Rattle.pv_laws_schedules.proofs.ReducedExposureLines.{listed-happen_reduced}
use Rattle.pv_laws_schedules.proofs.reduced_exposure.listed_lines_happen_reduced.Goals as goal

pub returns : goal.returns
returns c = listed-happen_reduced
