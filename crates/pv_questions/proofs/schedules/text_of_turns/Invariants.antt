use Rattle.std.proofs.Common.{◌≡◌, ◌++◌, length}
use Rattle.pv_questions.specs.Schedules.{turns_text}
use Rattle.pv_questions.proofs.schedules.text_of_turns.Given as goal

abbrev pub invariant-loop-byte : goal.invariant-loop-byte
invariant-loop-byte l = l.text.items ++ turns_text l.rest ≡ turns_text l.turns

abbrev pub decreases-loop-byte : goal.decreases-loop-byte
decreases-loop-byte l = length l.rest
