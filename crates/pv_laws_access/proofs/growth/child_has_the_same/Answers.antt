use Rattle.pv_laws_access.proofs.ProgramImages.{child-same}
use Rattle.pv_laws_access.proofs.growth.child_has_the_same.Goals as goal

pub returns : goal.returns
returns c = child-same
