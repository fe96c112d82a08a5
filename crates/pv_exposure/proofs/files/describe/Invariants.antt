use Rattle.std.proofs.Common.{◌≡◌, map, take}
use Rattle.pv_named_files.specs.FirstPaths.{first_tree}
use Rattle.pv_exposure.specs.StateFiles.{described, described_file}
use Rattle.pv_exposure.proofs.files.describe.Given as goal

abbrev pub invariant-loop-node : goal.invariant-loop-node
invariant-loop-node l = map described l.files.items ≡ map (described_file (first_tree l.paths) l.tree.tree) (take l.node-index l.nodes)
