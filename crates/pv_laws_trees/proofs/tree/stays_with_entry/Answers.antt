use Rattle.pv_laws_trees.proofs.WellFormedChanges.{stays-with_entry}
use Rattle.pv_laws_trees.proofs.tree.stays_with_entry.Goals as goal

pub returns : goal.returns
returns c = stays-with_entry
