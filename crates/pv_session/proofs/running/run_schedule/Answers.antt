use Rattle.pv_streams.specs.Sinks.{FailsBy}
use Rattle.std.proofs.Common.{arith, rules, subst, sym}
use Rattle.std.proofs.lemmas.Result.{err_from_is_err_and}
use Rattle.pv_model.specs.Machine.{steps_of}
use Rattle.pv_streams.proofs.OutputTexts.{on_err}
use Rattle.pv_streams.specs.declared.stop.Stop.{Stop}
use Rattle.pv_session.specs.Stopping.{StopsOn}
use Rattle.pv_session.specs.Tracing.{TracesStep}
use Rattle.pv_session.proofs.ObservedRuns.{state-after}
use Rattle.pv_session.proofs.TracedRuns.{trace-stopped, traced}
use Rattle.pv_session.proofs.running.run_schedule.Goals as goal

pub returns-in_err-run_with-clause-written : goal.returns-in_err-run_with-clause-written
returns-in_err-run_with-clause-written g c =
    let p = err_from_is_err_and c.from_residual.result c.from_residual.ensures.1 in
    let it = trace-stopped g.W.Sink c.in_err-run_with.field-0.0 (steps_of c.args.schedule.now) _ _ c.in_err-run_with.ensures.stopped in
    record {
      whole = search rules;
      prefix = on_err c.from_residual.result it.begun;
      failed = rw p.1 (subst (λ (stop : Stop). FailsBy stop (g.W.Sink.failures c.args.trace.now) (g.W.Sink.failures c.run_with.new.out)) (sym p.2) it.failed);
      quiet = search rules;
    }

pub returns-in_err-run_with-clause-stopped : goal.returns-in_err-run_with-clause-stopped
returns-in_err-run_with-clause-stopped g c =
    let p = err_from_is_err_and c.from_residual.result c.from_residual.ensures.1 in
    let it = trace-stopped g.W.Sink c.in_err-run_with.field-0.0 (steps_of c.args.schedule.now) _ _ c.in_err-run_with.ensures.stopped in
    rw p.1 (subst (λ (stop : Stop). StopsOn stop (steps_of c.args.schedule.now) c.args.session.now c.run_with.new.session (g.W.Sink.written c.args.trace.now) (g.W.Sink.written c.run_with.new.out)) (sym p.2) it.at)

pub returns-clause-after : goal.returns-clause-after
returns-clause-after g c = state-after (TracesStep g.W.Sink) (λ pid x y made. made.after) (steps_of c.args.schedule.now) _ _ c.in_ok-run_with.ensures.made

pub returns-clause-written : goal.returns-clause-written
returns-clause-written g c =
    let it = traced g.W.Sink (steps_of c.args.schedule.now) _ _ c.in_ok-run_with.ensures.made (omega (arith, c.in_ok-run_with.ensures.few, c.requires)) in
    record { whole = it.written; prefix = tt; failed = tt; quiet = it.quiet }

pub returns-clause-lines : goal.returns-clause-lines
returns-clause-lines g c =
    let it = traced g.W.Sink (steps_of c.args.schedule.now) _ _ c.in_ok-run_with.ensures.made (omega (arith, c.in_ok-run_with.ensures.few, c.requires)) in
    omega (arith, it.counted)
