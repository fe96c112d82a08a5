use Rattle.pv_laws_trees.proofs.WellFormedChanges.{stays-without_entry}
use Rattle.pv_laws_trees.proofs.tree.stays_without_entry.Goals as goal

pub returns : goal.returns
returns c = stays-without_entry
