use Rattle.pv_laws_trees.proofs.Ancestors.{none-above_itself}
use Rattle.pv_laws_trees.proofs.tree.none_above_itself.Goals as goal

pub returns : goal.returns
returns c = none-above_itself
