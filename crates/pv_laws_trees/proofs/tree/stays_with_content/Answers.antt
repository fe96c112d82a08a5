use Rattle.pv_laws_trees.proofs.WellFormedChanges.{stays-content}
use Rattle.pv_laws_trees.proofs.tree.stays_with_content.Goals as goal

pub returns : goal.returns
returns c = stays-content
