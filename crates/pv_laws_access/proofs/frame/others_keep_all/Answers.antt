use Rattle.pv_laws_access.proofs.OpenFilesAfterSteps.{others-keep_all}
use Rattle.pv_laws_access.proofs.frame.others_keep_all.Goals as goal

pub returns : goal.returns
returns c = λ program_of s pid other p order apart live goes. others-keep_all program_of s pid other p order apart live goes
