use Rattle.pv_laws_schedules.proofs.ExposureLines.{safe-files}
use Rattle.pv_laws_schedules.proofs.exposure.safe_files_are_closed.Goals as goal

pub returns : goal.returns
returns c = safe-files
