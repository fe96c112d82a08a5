use Rattle.pv_laws_trees.proofs.InodeNames.{as_many_names}
use Rattle.pv_laws_trees.proofs.image_bytes.names_are_slots.Goals as goal

pub returns : goal.returns
returns c = λ v bytes n once. as_many_names v bytes once n
