use Rattle.pv_laws_access.proofs.OpenFilesAfterSteps.{own-files-go}
use Rattle.pv_laws_access.proofs.frame.only_own_files_go.Goals as goal

pub returns : goal.returns
returns c = own-files-go
