use Rattle.pv_needs.proofs.TurnLoops.{left-all, left-beyond, left-fewer, left-here, left-later, left-nobody, numbered}
use Rattle.pv_needs.proofs.turns.turn_between.Goals as goal

pub loop-pid-init : goal.loop-pid-init
loop-pid-init c = left-all c.args.session.now c.args.after c.args.up_to

pub returns-then-pid-up_to-clause-taken : goal.returns-then-pid-up_to-clause-taken
returns-then-pid-up_to-clause-taken c =
    left-beyond c.args.most c.args.session.now c.parts.ensures.whole.processes.ascending c.args.after c.args.up_to c.loop-pid.last c.loop-pid.session c.loop-pid.invariant c.in-Some.pid
    (numbered _ _ _ _ _ c.in-Some.ensures c.processes.ensures c.parts-in-loop-pid.ensures.value) c.if-pid-up_to.true

pub returns-then-count-gt0-clause-taken : goal.returns-then-count-gt0-clause-taken
returns-then-count-gt0-clause-taken c =
    left-here c.args.most c.args.session.now c.parts.ensures.whole.processes.ascending c.args.after c.args.up_to c.loop-pid.last c.loop-pid.session c.loop-pid.invariant c.in-Some.pid
    (numbered _ _ _ _ _ c.in-Some.ensures c.processes.ensures c.parts-in-loop-pid.ensures.value) c.if-pid-up_to.false
    c.in_ok-count.count c.make_turn.new.session c.if-count-gt0.true c.in_ok-count.ensures.made

pub loop-pid-smaller : goal.loop-pid-smaller
loop-pid-smaller c =
    let next = numbered _ _ _ _ _ c.in-Some.ensures c.processes.ensures c.parts-in-loop-pid.ensures.value in
    let sorted = c.parts.ensures.whole.processes.ascending in
    let then =
    left-later c.args.most c.args.session.now sorted c.args.after c.args.up_to c.loop-pid.last c.loop-pid.session c.loop-pid.invariant c.in-Some.pid next c.if-pid-up_to.false
    c.in_ok-count.count c.make_turn.new.session c.if-count-gt0.false c.requires c.in_ok-count.ensures.made in
    left-fewer c.args.most c.args.session.now sorted c.args.after c.args.up_to c.loop-pid.last c.loop-pid.session c.loop-pid.invariant c.in-Some.pid next c.make_turn.new.session then.same

pub loop-pid-preserved : goal.loop-pid-preserved
loop-pid-preserved c =
    left-later c.args.most c.args.session.now c.parts.ensures.whole.processes.ascending c.args.after c.args.up_to c.loop-pid.last c.loop-pid.session c.loop-pid.invariant c.in-Some.pid
    (numbered _ _ _ _ _ c.in-Some.ensures c.processes.ensures c.parts-in-loop-pid.ensures.value) c.if-pid-up_to.false
    c.in_ok-count.count c.make_turn.new.session c.if-count-gt0.false c.requires c.in_ok-count.ensures.made

pub returns-clause-taken : goal.returns-clause-taken
returns-clause-taken c =
    left-nobody c.args.most c.args.session.now c.parts.ensures.whole.processes.ascending c.args.after c.args.up_to c.loop-pid.last c.loop-pid.session c.loop-pid.invariant
    (numbered _ _ _ _ _ c.in_default.ensures c.processes.ensures c.parts-in-loop-pid.ensures.value)
