-- A tree without nodes, for searches without a first tree.
use Rattle.std.specs.Prelude.{[]}
use Rattle.pv_model.specs.declared.version.Version.TheVariants.{V1}
use Rattle.pv_model.specs.Machine.{Tree}

abbrev pub no_tree : Tree
no_tree = record { nodes = []; blocks = 0; inodes = 0; version = V1 }
