use Rattle.pv_laws_trees.proofs.WalkRelations.{slashes-root}
use Rattle.pv_laws_trees.proofs.walk.slashes_are_root.Goals as goal

pub returns : goal.returns
returns c = slashes-root
