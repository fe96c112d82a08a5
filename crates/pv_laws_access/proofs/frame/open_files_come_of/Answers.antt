use Rattle.pv_laws_access.proofs.OpenFilesAfterSteps.{files-come}
use Rattle.pv_laws_access.proofs.frame.open_files_come_of.Goals as goal

pub returns : goal.returns
returns c = λ program_of s pid k left. files-come s pid k left program_of
