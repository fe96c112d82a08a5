use Rattle.std.proofs.Common.{◌+◌, drop, get_or, sym, subst, arith}
use Rattle.std.proofs.lemmas.Result.{err_from_is_err_and}
use Rattle.pv_model.specs.Machine.{steps_of}
use Rattle.pv_streams.specs.declared.stop.Stop.{Stop}
use Rattle.pv_session.specs.Observing.{AreStopped, observed}
use Rattle.pv_session.proofs.ObservedRuns.{but-after, but-all, but-fewer, but-none, but-stopped, but-turn, few-all, few-more, few-none}
use Rattle.pv_session.proofs.observing.run_with.Goals as goal

pub loop-turn-init : goal.loop-turn-init
loop-turn-init g c = record { made = but-all _ _; few = few-none c.args.schedule.now }

pub loop-left-init : goal.loop-left-init
loop-left-init g c = but-turn c.args.schedule.now c.loop-turn.turn-index c.loop-turn-test.true c.loop-turn.invariant.made

pub loop-left-preserved : goal.loop-left-preserved
loop-left-preserved g c =
    but-fewer _ c.in_ok-left.field-0 c.loop-left.left (get_or c.args.schedule.now c.loop-turn.turn-index (0, 0)).0 (steps_of (drop (c.loop-turn.turn-index + 1) c.args.schedule.now))
    c.in_ok-left.ensures.few c.loop-left.invariant c.in_ok-left.ensures.made

pub returns-in_err-left-clause-stopped : goal.returns-in_err-left-clause-stopped
returns-in_err-left-clause-stopped g c =
    let p = err_from_is_err_and c.from_residual.result c.from_residual.ensures.1 in
    let x = observed c.args.session.now c.args.observer.now c.args.out.now in
    let z = observed c.make_steps.new.session c.make_steps.new.self c.make_steps.new.out in
    rw p.1 (subst (λ (stop : Stop). AreStopped g.O.RunObserver.makes (g.O.RunObserver.stops stop) (steps_of c.args.schedule.now) x z) (sym p.2)
    (but-stopped (g.O.RunObserver.stops c.in_err-left.field-0.0) z c.loop-left.left (get_or c.args.schedule.now c.loop-turn.turn-index (0, 0)).0
    (steps_of (drop (c.loop-turn.turn-index + 1) c.args.schedule.now)) c.loop-left-test.true c.loop-left.invariant c.in_err-left.ensures.stopped))

pub loop-turn-preserved : goal.loop-turn-preserved
loop-turn-preserved g c = record {
  made =
      but-after c.loop-left.left (get_or c.args.schedule.now c.loop-turn.turn-index (0, 0)).0 (steps_of (drop (c.loop-turn.turn-index + 1) c.args.schedule.now))
      c.loop-left-test.false c.loop-left.invariant;
  few = few-more c.args.schedule.now c.loop-turn.turn-index c.loop-turn-test.true (omega arith) c.loop-turn.invariant.few;
}

pub returns-clause-made : goal.returns-clause-made
returns-clause-made g c = but-none c.args.schedule.now c.loop-turn.turn-index c.loop-turn-test.false c.loop-turn.invariant.made

pub returns-clause-few : goal.returns-clause-few
returns-clause-few g c = few-all c.args.schedule.now c.loop-turn.turn-index c.loop-turn-test.false c.loop-turn.auto.turn-index-end c.loop-turn.invariant.few
