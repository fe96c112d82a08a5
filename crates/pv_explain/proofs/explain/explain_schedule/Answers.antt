use Rattle.std.proofs.Common.{◌+◌, ◌<◌, ◌^◌, ◌∙◌, ap, arith, length, subst, sym, []}
use Rattle.std.proofs.lemmas.Result.{err_from_is_err_and}
use Rattle.pv_model.specs.Machine.{answer_bytes, locations, Settings, State, steps_of}
use Rattle.pv_streams.specs.declared.stop.Stop.{Stop}
use Rattle.pv_streams.proofs.WriterContracts.{or_as, or_longer, or_ok, writes_as, writes_both}
use Rattle.pv_step_lines.proofs.OfSession.ObservedRuns.{state-after}
use Rattle.pv_streams.proofs.StoppedWriters.{stopped, unwritten}
use Rattle.pv_explain.specs.Explaining.{ExplainsStep}
use Rattle.pv_explain.specs.Steps.{steps_text, StopsExplained}
use Rattle.pv_explain.proofs.StepSequences.{explain-begun, explain-stopped, explained, lines-text}
use Rattle.pv_explain.proofs.explain.explain_schedule.Goals as goal

pub returns-in_err-run_with-clause-written : goal.returns-in_err-run_with-clause-written
returns-in_err-run_with-clause-written g c =
    let pids = steps_of c.args.schedule.now in
    let fits : 1 + length pids < 2 ^ 64 = omega (arith, c.step_count.ensures.value, c.step_count.ensures.few, c.requires.lines) in
    let steps_are = ap (λ (all : Settings). steps_text c.args.extra 1 all pids c.args.session.now) c.requires.fresh in
    stopped c.from_residual.ensures.1
    (or_as (lines-text c.args.extra pids c.args.session.now) (or_longer _ (or_as steps_are (explain-begun g.W.Sink c.in_err-run_with.field-0.0 pids _ _ c.in_err-run_with.ensures.stopped fits))))

pub returns-in_err-run_with-clause-stopped : goal.returns-in_err-run_with-clause-stopped
returns-in_err-run_with-clause-stopped g c =
    let pids = steps_of c.args.schedule.now in
    let fits : 1 + length pids < 2 ^ 64 = omega (arith, c.step_count.ensures.value, c.step_count.ensures.few, c.requires.lines) in
    let p = err_from_is_err_and c.from_residual.result c.from_residual.ensures.1 in
    let it = explain-stopped g.W.Sink c.in_err-run_with.field-0.0 pids _ _ c.in_err-run_with.ensures.stopped fits in
    rw p.1 (subst (λ (stop : Stop). StopsExplained c.args.extra stop 1 [] pids c.args.session.now c.run_with.new.session (g.W.Sink.written c.args.out.now) (g.W.Sink.written c.run_with.new.out)) (sym p.2)
    (subst (λ (all : Settings). StopsExplained c.args.extra c.in_err-run_with.field-0.0 1 all pids c.args.session.now c.run_with.new.session (g.W.Sink.written c.args.out.now) (g.W.Sink.written c.run_with.new.out))
    c.requires.fresh it))

pub returns-in_err-write_locations-clause-written : goal.returns-in_err-write_locations-clause-written
returns-in_err-write_locations-clause-written g c =
    let pids = steps_of c.args.schedule.now in
    let fits : 1 + length pids < 2 ^ 64 = omega (arith, c.step_count.ensures.value, c.step_count.ensures.few, c.requires.lines) in
    let steps_are = ap (λ (all : Settings). steps_text c.args.extra 1 all pids c.args.session.now) c.requires.fresh in
    let left = state-after (ExplainsStep g.W.Sink) (λ pid x y made. made.after) pids _ _ c.in_ok-run_with.ensures.made in
    let locations_are = ap (λ (t : State). answer_bytes (locations t)) (c.parts.ensures.value ∙ left) in
    unwritten c.from_residual-in_err-write_locations.ensures.1
    (writes_as (lines-text c.args.extra pids c.args.session.now)
    (writes_both (writes_as steps_are (explained g.W.Sink pids _ _ c.in_ok-run_with.ensures.made fits)) (writes_as locations_are c.in_err-write_locations.ensures)))

pub returns-clause-after : goal.returns-clause-after
returns-clause-after g c = state-after (ExplainsStep g.W.Sink) (λ pid x y made. made.after) (steps_of c.args.schedule.now) _ _ c.in_ok-run_with.ensures.made

pub returns-clause-written : goal.returns-clause-written
returns-clause-written g c =
    let pids = steps_of c.args.schedule.now in
    let fits : 1 + length pids < 2 ^ 64 = omega (arith, c.step_count.ensures.value, c.step_count.ensures.few, c.requires.lines) in
    let steps_are = ap (λ (all : Settings). steps_text c.args.extra 1 all pids c.args.session.now) c.requires.fresh in
    let left = state-after (ExplainsStep g.W.Sink) (λ pid x y made. made.after) pids _ _ c.in_ok-run_with.ensures.made in
    let locations_are = ap (λ (t : State). answer_bytes (locations t)) (c.parts.ensures.value ∙ left) in
    or_ok
    (writes_as (lines-text c.args.extra pids c.args.session.now)
    (writes_both (writes_as steps_are (explained g.W.Sink pids _ _ c.in_ok-run_with.ensures.made fits)) (writes_as locations_are c.in_ok-write_locations.ensures)))
