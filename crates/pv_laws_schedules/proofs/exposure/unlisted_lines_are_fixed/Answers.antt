use Rattle.pv_laws_schedules.proofs.ExposureLines.{unlisted-fixed}
use Rattle.pv_laws_schedules.proofs.exposure.unlisted_lines_are_fixed.Goals as goal

pub returns : goal.returns
returns c = unlisted-fixed
