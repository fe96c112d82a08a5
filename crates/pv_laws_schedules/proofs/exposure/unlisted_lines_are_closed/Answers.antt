use Rattle.pv_laws_schedules.proofs.ExposureLines.{unlisted-closed}
use Rattle.pv_laws_schedules.proofs.exposure.unlisted_lines_are_closed.Goals as goal

pub returns : goal.returns
returns c = unlisted-closed
