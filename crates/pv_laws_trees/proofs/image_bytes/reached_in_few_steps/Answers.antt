use Rattle.pv_model.specs.Machine.{inode_number}
use Rattle.pv_laws_trees.proofs.InodeNames.{within-reached}
use Rattle.pv_laws_trees.proofs.ReachedNodes.{reached-within}
use Rattle.pv_laws_trees.proofs.image_bytes.reached_in_few_steps.Goals as goal

pub returns : goal.returns
returns c = λ v bytes n once has. (within-reached v bytes once (inode_number bytes) n, reached-within v bytes once has n)
