use Rattle.std.proofs.Common.{◌≡◌, [], drop, map}
use Rattle.pv_named_files.specs.Notes.{note}
use Rattle.pv_named_files.specs.Listed.{with_files}
use Rattle.pv_named_files.proofs.files.files_among.Given as goal

abbrev pub invariant-loop-node : goal.invariant-loop-node
invariant-loop-node l = record {
  files : with_files l.tree.tree l.files.items (drop l.node-index l.nodes) ≡ with_files l.tree.tree [] l.nodes;
  notes : l.notes ≡ map note l.files.items;
}
