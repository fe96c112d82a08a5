use Rattle.pv_laws_schedules.proofs.ExposureLines.{unlisted-unread}
use Rattle.pv_laws_schedules.proofs.exposure.unlisted_lines_read_nothing.Goals as goal

pub returns : goal.returns
returns c = unlisted-unread
