use Rattle.pv_needs.proofs.TurnLoops.{IsSoFar}
use Rattle.pv_needs.proofs.turns.make_turn.Given as goal

abbrev pub invariant-loop-made : goal.invariant-loop-made
invariant-loop-made l = IsSoFar l.most l.pid l.initial.session l.made l.session
