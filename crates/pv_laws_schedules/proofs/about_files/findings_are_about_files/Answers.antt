use Rattle.pv_laws_schedules.proofs.AboutFiles.{findings-about}
use Rattle.pv_laws_schedules.proofs.about_files.findings_are_about_files.Goals as goal

pub returns : goal.returns
returns c = findings-about
