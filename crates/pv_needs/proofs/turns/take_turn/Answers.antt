use Rattle.std.proofs.Common.{sym}
use Rattle.std.proofs.lemmas.Result.{IfOk-weaker}
use Rattle.pv_needs.proofs.TurnLoops.{taken-first, taken-next}
use Rattle.pv_needs.proofs.turns.take_turn.Goals as goal
use Rattle.pv_laws_trees.proofs.ListTests.{not-there}

pub returns-then-is_some-clause-taken : goal.returns-then-is_some-clause-taken
returns-then-is_some-clause-taken c =
    taken-next c.args.most c.args.session.now c.parts.ensures.whole.processes c.args.last c.in_ok-above.above c.turn_between.new.session (sym c.if-is_some.ensures) c.in_ok-above.ensures.taken

pub returns-clause-taken : goal.returns-clause-taken
returns-clause-taken c =
    IfOk-weaker c.turn_between-2.result _ _
    (λ made taken. taken-first c.args.most c.args.session.now c.turn_between.new.session c.parts.ensures.whole.processes c.args.last made c.turn_between-2.new.session
    c.in_ok-above.above (not-there c.in_ok-above.above (sym c.if-is_some.ensures)) c.in_ok-above.ensures.taken taken)
    c.turn_between-2.ensures.taken
