use Rattle.pv_laws_trees.proofs.WellFormedChanges.{stays-renamed}
use Rattle.pv_laws_trees.proofs.tree.stays_renamed.Goals as goal

pub returns : goal.returns
returns c = stays-renamed
