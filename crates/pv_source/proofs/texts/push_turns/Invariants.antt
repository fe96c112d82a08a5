use Rattle.std.proofs.Common.{◌≡◌, ◌≤◌, ◌+◌, ◌++◌, length}
use Rattle.std.specs.Prelude.{map}
use Rattle.pv_model.specs.Machine.{spaced, ended, lines_that_count}
use Rattle.pv_source.specs.Reading.{numbered_lines}
use Rattle.pv_source.proofs.texts.push_turns.Given as goal

abbrev pub invariant-loop-line : goal.invariant-loop-line
invariant-loop-line l = record {
  put :
      l.out.items ++ ended (map (λ line. spaced line.1) (lines_that_count (numbered_lines l.rest)))
      ≡ l.fn.out.items ++ ended (map (λ line. spaced line.1) (lines_that_count (numbered_lines l.fn.lines)));
  room : l.rest.number + length l.rest.text.now ≤ l.fn.lines.number + length l.fn.lines.text.now;
}

abbrev pub decreases-loop-line : goal.decreases-loop-line
decreases-loop-line l = length l.rest.text.now
