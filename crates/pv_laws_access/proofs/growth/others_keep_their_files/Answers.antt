use Rattle.pv_laws_access.proofs.OtherOpenFiles.{others-files}
use Rattle.pv_laws_access.proofs.growth.others_keep_their_files.Goals as goal

pub returns : goal.returns
returns c = λ program_of s pid other p d x file order apart live has there. others-files program_of s pid order other p d x file apart live has there
