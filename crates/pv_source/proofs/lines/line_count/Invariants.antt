use Rattle.std.proofs.Common.{◌≡◌, ◌≤◌, ◌+◌, length}
use Rattle.pv_model.specs.Machine.{lines_of}
use Rattle.pv_source.proofs.lines.line_count.Given as goal

abbrev pub invariant-loop-following : goal.invariant-loop-following
invariant-loop-following l = record {
  sum : l.count + length (lines_of l.rest) ≡ length (lines_of l.text);
  room : l.count + length l.rest ≤ length l.text;
}

abbrev pub decreases-loop-following : goal.decreases-loop-following
decreases-loop-following l = length l.rest
