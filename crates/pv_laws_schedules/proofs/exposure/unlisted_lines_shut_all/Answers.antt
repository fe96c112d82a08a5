use Rattle.pv_laws_schedules.proofs.ExposureLines.{unlisted-shut}
use Rattle.pv_laws_schedules.proofs.exposure.unlisted_lines_shut_all.Goals as goal

pub returns : goal.returns
returns c = unlisted-shut
