use Rattle.pv_laws_trees.proofs.Trees.{well_formed-iff-sound}
use Rattle.pv_laws_trees.proofs.tree.well_formed_by_entries.Goals as goal

pub returns : goal.returns
returns c = well_formed-iff-sound
