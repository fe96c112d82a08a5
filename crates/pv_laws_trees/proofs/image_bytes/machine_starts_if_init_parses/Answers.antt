use Rattle.pv_laws_trees.proofs.MachineStarts.{starts}
use Rattle.pv_laws_trees.proofs.image_bytes.machine_starts_if_init_parses.Goals as goal

pub returns : goal.returns
returns c = starts
