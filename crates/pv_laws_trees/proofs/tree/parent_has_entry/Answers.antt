use Rattle.pv_laws_trees.proofs.Trees.{parent-iff-entry}
use Rattle.pv_laws_trees.proofs.tree.parent_has_entry.Goals as goal

pub returns : goal.returns
returns c = parent-iff-entry
