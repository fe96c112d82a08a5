use Rattle.std.proofs.Common.{length}
use Rattle.pv_answers.proofs.ProcessSequence.{records_after}
use Rattle.pv_needs.proofs.TurnLoops.{IsLeft}
use Rattle.pv_needs.proofs.turns.turn_between.Given as goal

abbrev pub invariant-loop-pid : goal.invariant-loop-pid
invariant-loop-pid l = IsLeft l.initial.session l.after l.up_to l.last l.session

abbrev pub decreases-loop-pid : goal.decreases-loop-pid
decreases-loop-pid l = length (records_after l.last l.session.processes)
