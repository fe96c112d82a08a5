use Rattle.std.proofs.Common.{◌≡◌, ◌++◌, length}
use Rattle.pv_model_questions.specs.Notes.{live_numbers}
use Rattle.pv_policy.proofs.OfAnswers.ProcessSequence.{records_after}
use Rattle.pv_questions.proofs.LiveNumbers.{numbers_in}
use Rattle.pv_questions.proofs.notes.live_numbers.Given as goal

abbrev pub invariant-loop-pid : goal.invariant-loop-pid
invariant-loop-pid l = l.pids.items ++ numbers_in (records_after l.last l.parts.processes) ≡ live_numbers l.parts

abbrev pub decreases-loop-pid : goal.decreases-loop-pid
decreases-loop-pid l = length (records_after l.last l.parts.processes)
