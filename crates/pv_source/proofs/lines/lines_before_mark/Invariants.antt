use Rattle.std.proofs.Common.{◌≤◌, ◌+◌, length}
use Rattle.pv_source.proofs.SourceLines.{IsUnmarkedSoFar}
use Rattle.pv_source.proofs.lines.lines_before_mark.Given as goal

abbrev pub invariant-loop-line : goal.invariant-loop-line
invariant-loop-line l = record {
  unmarked : IsUnmarkedSoFar l.mark l.lines.text.now l.rest l.lines.number l.number;
  room : l.number + length l.rest ≤ l.lines.number + length l.lines.text.now;
  shorter : length l.rest ≤ length l.lines.text.now;
}

abbrev pub decreases-loop-line : goal.decreases-loop-line
decreases-loop-line l = length l.rest
