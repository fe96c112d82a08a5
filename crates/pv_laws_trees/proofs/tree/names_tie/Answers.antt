use Rattle.pv_laws_trees.proofs.DirectoryEntries.{ties-bytes_eq}
use Rattle.pv_laws_trees.proofs.tree.names_tie.Goals as goal

pub returns : goal.returns
returns c = ties-bytes_eq
