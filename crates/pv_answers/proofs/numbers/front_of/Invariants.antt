use Rattle.std.proofs.Common.{◌≡◌, length}
use Rattle.pv_model.specs.Answers.ProcessRecord.{buffer_front}
use Rattle.pv_answers.proofs.numbers.front_of.Given as goal

abbrev pub invariant-loop-last : goal.invariant-loop-last
invariant-loop-last l = record { same : buffer_front l.front ≡ buffer_front l.bytes }

abbrev pub decreases-loop-last : goal.decreases-loop-last
decreases-loop-last l = length l.front
