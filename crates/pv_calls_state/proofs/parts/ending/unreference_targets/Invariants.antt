use Rattle.std.proofs.Common.{◌≡◌, ℕ, ◌+◌, drop, map}
use Rattle.pv_calls_state.specs.Counts.{times}
use Rattle.pv_model.specs.Machine.{entries_of_table, held_by_table, target_directory}
use Rattle.pv_procs.specs.OfTree.Holding.{holds_at, collected}
use Rattle.pv_calls_state.proofs.parts.ending.unreference_targets.Given as goal

abbrev pub invariant-loop-k : goal.invariant-loop-k
invariant-loop-k l = record {
  nodes : l.tree.tree ≡ collected l.initial.tree.tree l.tree.holds;
  holds : (n : ℕ) → holds_at l.tree n + times n (held_by_table l.table.table)
      ≡ holds_at l.initial.tree n + times n (map (λ e. target_directory e.0) (drop l.k (entries_of_table l.table.table)));
}
