use Rattle.std.proofs.Common.{◌≡◌, length}
use Rattle.pv_model.specs.Machine.{lines_of}
use Rattle.pv_questions.specs.Formats.{heads_source}
use Rattle.pv_questions.proofs.input.is_source.Given as goal

abbrev pub invariant-loop-line : goal.invariant-loop-line
invariant-loop-line l = heads_source (lines_of l.rest) ≡ heads_source (lines_of l.bytes)

abbrev pub decreases-loop-line : goal.decreases-loop-line
decreases-loop-line l = length l.rest
