use Rattle.pv_laws_trees.proofs.InodeBlocks.{blocks-fine, fine-blocks}
use Rattle.pv_laws_trees.proofs.image_bytes.blocks_are_tested.Goals as goal

pub returns : goal.returns
returns c = λ v bytes n. (blocks-fine v bytes n, fine-blocks v bytes n)
