use Rattle.pv_laws_trees.proofs.Inodes.{inode-fine, fine-inode}
use Rattle.pv_laws_trees.proofs.image_bytes.inodes_are_tested.Goals as goal

pub returns : goal.returns
returns c = λ v bytes n. (inode-fine v bytes n, fine-inode v bytes n)
