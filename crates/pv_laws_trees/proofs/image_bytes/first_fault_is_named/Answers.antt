use Rattle.pv_laws_trees.proofs.FirstErrors.{named, answered}
use Rattle.pv_laws_trees.proofs.image_bytes.first_fault_is_named.Goals as goal

pub returns : goal.returns
returns c = λ bytes fault. (named bytes fault, answered bytes fault)
