use Rattle.std.proofs.Common.{◌≡◌, ◌-◌, length}
use Rattle.pv_answers.proofs.ListedLines.{upcoming}
use Rattle.pv_model.specs.Machine.{entries_at}
use Rattle.pv_programs.specs.Naming.{first_under, first_within, holds_numbers}
use Rattle.pv_programs.proofs.naming.+path_within.Given as goal

abbrev pub decreases-path_within : goal.decreases-path_within
decreases-path_within l = l.depth

-- the entries so far lead to no such file
abbrev pub invariant-loop-next : goal.invariant-loop-next
invariant-loop-next l =
    first_under (holds_numbers l.tree.tree l.numbers) l.tree.tree (l.depth - 1) (upcoming (entries_at l.tree.tree l.node) l.next)
    ≡ first_within (holds_numbers l.tree.tree l.numbers) l.tree.tree l.depth l.node

abbrev pub decreases-loop-next : goal.decreases-loop-next
decreases-loop-next l = length (upcoming (entries_at l.tree.tree l.node) l.next)
