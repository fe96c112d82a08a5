use Rattle.pv_laws_trees.proofs.MountedImages.{one-tree}
use Rattle.pv_laws_trees.proofs.image_bytes.images_hold_one_tree.Goals as goal

pub returns : goal.returns
returns c = one-tree
