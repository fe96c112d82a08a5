use Rattle.std.proofs.Common.{◌≡◌, ◌≤◌, ◌+◌, length}
use Rattle.pv_source.specs.Reading.{numbered_text, numbered_lines, first_that_counts}
use Rattle.pv_source.proofs.lines.next_line.Given as goal

abbrev pub invariant-loop-line : goal.invariant-loop-line
invariant-loop-line l = record {
  same : first_that_counts (numbered_text l.number l.rest) ≡ first_that_counts (numbered_lines l.lines);
  room : l.number + length l.rest ≤ l.lines.number + length l.lines.text.now;
  shorter : length l.rest ≤ length l.lines.text.now;
}

abbrev pub decreases-loop-line : goal.decreases-loop-line
decreases-loop-line l = length l.rest
