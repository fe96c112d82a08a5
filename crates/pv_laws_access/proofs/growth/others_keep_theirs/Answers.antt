use Rattle.pv_laws_access.proofs.ProgramImages.{others-keep}
use Rattle.pv_laws_access.proofs.growth.others_keep_theirs.Goals as goal

pub returns : goal.returns
returns c = others-keep
