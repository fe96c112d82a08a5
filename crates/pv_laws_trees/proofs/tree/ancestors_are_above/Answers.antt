use Rattle.pv_laws_trees.proofs.Ancestors.{ancestors-above}
use Rattle.pv_laws_trees.proofs.tree.ancestors_are_above.Goals as goal

pub returns : goal.returns
returns c = ancestors-above
