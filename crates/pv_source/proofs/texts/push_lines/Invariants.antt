use Rattle.std.proofs.Common.{◌≡◌, ◌++◌, length}
use Rattle.pv_model.specs.Machine.{lines_of, ended}
use Rattle.pv_source.proofs.texts.push_lines.Given as goal

abbrev pub invariant-loop-line : goal.invariant-loop-line
invariant-loop-line l = l.out.items ++ ended (lines_of l.rest) ≡ l.fn.out.items ++ ended (lines_of l.text)

abbrev pub decreases-loop-line : goal.decreases-loop-line
decreases-loop-line l = length l.rest
