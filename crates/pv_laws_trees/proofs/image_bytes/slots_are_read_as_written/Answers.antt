use Rattle.pv_laws_trees.proofs.SlotEntries.{read, appear}
use Rattle.pv_laws_trees.proofs.image_bytes.slots_are_read_as_written.Goals as goal

pub returns : goal.returns
returns c = λ v bytes es. (read v bytes es, appear v bytes es)
