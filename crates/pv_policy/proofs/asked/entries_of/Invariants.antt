use Rattle.std.proofs.Common.{◌≡◌, map, take}
use Rattle.pv_model.specs.Machine.{entries_of_table}
use Rattle.pv_policy.specs.Asked.{entry_granted}
use Rattle.pv_policy.proofs.asked.entries_of.Given as goal

abbrev pub invariant-loop-k : goal.invariant-loop-k
invariant-loop-k l = l.rows.items ≡ map (λ e. entry_granted l.tree.tree e.0 e.1) (take l.k (entries_of_table l.table.table))
