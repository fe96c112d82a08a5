use Rattle.pv_laws_trees.proofs.AcceptedImages.{accepted-boots, boots-accepted}
use Rattle.pv_laws_trees.proofs.image_bytes.accepted_images_boot.Goals as goal

pub returns : goal.returns
returns c = λ bytes. (accepted-boots bytes, boots-accepted bytes)
