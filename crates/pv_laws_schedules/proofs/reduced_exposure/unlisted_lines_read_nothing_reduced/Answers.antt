use Rattle.pv_laws_schedules.proofs.ReducedExposureLines.{unlisted-unread_reduced}
use Rattle.pv_laws_schedules.proofs.reduced_exposure.unlisted_lines_read_nothing_reduced.Goals as goal

pub returns : goal.returns
returns c = unlisted-unread_reduced
