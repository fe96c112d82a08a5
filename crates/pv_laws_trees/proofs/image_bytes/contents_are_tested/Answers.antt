use Rattle.pv_laws_trees.proofs.InodeNodes.{content-fine, fine-content}
use Rattle.pv_laws_trees.proofs.image_bytes.contents_are_tested.Goals as goal

pub returns : goal.returns
returns c = λ v bytes n. (content-fine v bytes n, fine-content v bytes n)
