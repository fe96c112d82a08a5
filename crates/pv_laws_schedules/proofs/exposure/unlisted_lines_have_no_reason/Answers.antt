use Rattle.pv_laws_schedules.proofs.ExposureLines.{unlisted-none}
use Rattle.pv_laws_schedules.proofs.exposure.unlisted_lines_have_no_reason.Goals as goal

pub returns : goal.returns
returns c = unlisted-none
