use Rattle.pv_laws_schedules.proofs.AllFiles.{each-file}
use Rattle.pv_laws_schedules.proofs.exposure.each_file_is_listed.Goals as goal

pub returns : goal.returns
returns c = each-file
