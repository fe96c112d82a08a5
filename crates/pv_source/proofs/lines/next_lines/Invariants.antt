use Rattle.std.proofs.Common.{◌≡◌, ◌≤◌, ◌+◌, length}
use Rattle.pv_source.proofs.SourceLines.{IsBodySoFar}
use Rattle.pv_source.proofs.lines.next_lines.Given as goal

abbrev pub invariant-loop : goal.invariant-loop
invariant-loop l = record {
  body : IsBodySoFar l.lines.text.now l.rest l.counter;
  number : l.number ≡ l.lines.number + l.counter;
  room : l.number + length l.rest ≤ l.lines.number + length l.lines.text.now;
  shorter : length l.rest ≤ length l.lines.text.now;
}
