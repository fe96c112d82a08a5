use Rattle.std.proofs.Common.{◌≡◌, drop}
use Rattle.std.specs.Prelude.{map}
use Rattle.pv_image_manifest.specs.Entries.{entry_of_line}
use Rattle.pv_host_copy.proofs.SourceEntries.{IsAddedSoFar}
use Rattle.pv_host_copy.proofs.given.add_missing.Given as goal

abbrev pub invariant-loop-entry : goal.invariant-loop-entry
invariant-loop-entry l = record {
  so_far : IsAddedSoFar (map entry_of_line l.given) l.fn.tree.tree (map entry_of_line (drop l.entry-index l.given)) l.tree.tree;
  holds : l.tree.holds ≡ l.fn.tree.holds;
}
