use Rattle.pv_laws_schedules.proofs.AboutFiles.{no-files}
use Rattle.pv_laws_schedules.proofs.about_files.no_files_ask_for_all.Goals as goal

pub returns : goal.returns
returns c = no-files
