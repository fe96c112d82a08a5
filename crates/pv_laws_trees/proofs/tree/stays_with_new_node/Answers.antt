use Rattle.pv_laws_trees.proofs.WellFormedChanges.{stays-new_node}
use Rattle.pv_laws_trees.proofs.tree.stays_with_new_node.Goals as goal

pub returns : goal.returns
returns c = stays-new_node
