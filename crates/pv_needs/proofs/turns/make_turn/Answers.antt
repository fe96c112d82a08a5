use Rattle.std.proofs.Common.{◌≡◌, ◌∙◌, ◌+◌, arith, ap, subst, sym}
use Rattle.pv_model.specs.Machine.{continues}
use Rattle.pv_needs.specs.Turning.{IsTurnMade}
use Rattle.pv_needs.proofs.TurnLoops.{IsSoFar, so-far-all, so-far-more, so-far-none, so-far-stops}
use Rattle.pv_needs.proofs.turns.make_turn.Goals as goal

pub loop-made-init : goal.loop-made-init
loop-made-init c = so-far-none c.args.most c.args.pid c.args.session.now

pub returns-then-not-continues-clause-made : goal.returns-then-not-continues-clause-made
returns-then-not-continues-clause-made c =
    subst (λ s. IsTurnMade c.args.most c.args.pid c.args.session.now c.loop-made.made s) (sym c.in_ok-step.ensures.after)
    (so-far-stops c.args.most c.args.pid c.args.session.now c.loop-made.made c.loop-made.session c.loop-made.invariant
    (ap continues (sym c.in_ok-step.ensures.outcome) ∙ sym c.if-not-continues.ensures))

pub loop-made-preserved : goal.loop-made-preserved
loop-made-preserved c =
    subst (λ s. IsSoFar c.args.most c.args.pid c.args.session.now (c.loop-made.made + 1) s) (sym c.in_ok-step.ensures.after)
    (so-far-more c.args.most c.args.pid c.args.session.now c.loop-made.made c.loop-made.session c.loop-made-test.true c.loop-made.invariant
    (ap continues (sym c.in_ok-step.ensures.outcome) ∙ sym c.if-not-continues.ensures))

pub returns-clause-made : goal.returns-clause-made
returns-clause-made c =
    let all : c.loop-made.made ≡ c.args.most = omega (arith, c.loop-made.invariant.fits, c.loop-made-test.false) in
    so-far-all c.args.most c.args.pid c.args.session.now c.loop-made.session
    (subst (λ n. IsSoFar c.args.most c.args.pid c.args.session.now n c.loop-made.session) all c.loop-made.invariant)
