use Rattle.std.proofs.Common.{◌≡◌, ◌≤◌, ◌+◌, length}
use Rattle.pv_script.proofs.WholeSchedules.{IsScheduleSoFar}
use Rattle.pv_script.proofs.schedule.Schedule.parse.Given as goal

abbrev pub invariant-loop-line : goal.invariant-loop-line
invariant-loop-line l = record {
  number : l.line_number ≤ 65537;
  count : length l.turns.items + 1 ≡ l.line_number;
  so_far : IsScheduleSoFar l.turns.items l.rest l.line_number l.text;
}

abbrev pub decreases-loop-line : goal.decreases-loop-line
decreases-loop-line l = length l.rest
