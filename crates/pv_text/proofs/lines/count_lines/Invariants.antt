use Rattle.std.proofs.Common.{◌≡◌, ◌+◌, length}
use Rattle.pv_model.specs.Machine.{lines_of}
use Rattle.pv_text.proofs.lines.count_lines.Given as goal

abbrev pub invariant-loop-count : goal.invariant-loop-count
invariant-loop-count l = length (lines_of l.rest) + l.count ≡ length (lines_of l.text)
