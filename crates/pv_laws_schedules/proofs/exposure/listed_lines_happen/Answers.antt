use Rattle.pv_laws_schedules.proofs.ExposureLines.{listed-happen}
use Rattle.pv_laws_schedules.proofs.exposure.listed_lines_happen.Goals as goal

pub returns : goal.returns
returns c = listed-happen
