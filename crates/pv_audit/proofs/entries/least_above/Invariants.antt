use Rattle.std.proofs.Common.{◌≡◌, ◌+◌, ℕ, true}
use Rattle.pv_model.specs.Machine.{entries_of_table, is_directory_at}
use Rattle.pv_model.specs.Tree.{ancestors_within}
use Rattle.pv_audit.specs.Findings.{lesser}
use Rattle.pv_audit.proofs.TableEntries.{least_own}
use Rattle.pv_audit.proofs.entries.least_above.Given as goal

-- the directory is valid, and the entry found so far, with the rest of the climb, gives the result
abbrev pub invariant-loop-climbed : goal.invariant-loop-climbed
invariant-loop-climbed l =
    (is_directory_at l.tree.tree l.at ≡ true)
    × ((left : ℕ) → left + l._climbed ≡ l._climbed-end
    → lesser l.least (least_own (entries_of_table l.table.table) (ancestors_within l.tree.tree left l.at))
    ≡ least_own (entries_of_table l.table.table) (ancestors_within l.tree.tree l._climbed-end l.directory))
