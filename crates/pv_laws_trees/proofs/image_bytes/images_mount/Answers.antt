use Rattle.pv_laws_trees.proofs.MountedImages.{image-mounted}
use Rattle.pv_laws_trees.proofs.TreeImages.{mounted-image}
use Rattle.pv_laws_trees.proofs.image_bytes.images_mount.Goals as goal

pub returns : goal.returns
returns c = λ bytes t. (mounted-image bytes t, image-mounted bytes t)
