use Rattle.std.proofs.Common.{rules, ap, ◌∙◌}
use Rattle.std.proofs.lemmas.Result.{err_from_is_err_and}
use Rattle.pv_model.specs.Machine.{State, image_started}
use Rattle.pv_run.proofs.StoppedOutput.{image_written, neither_written, no_image_written, none_buffered}
use Rattle.pv_run.proofs.ImageRuns.{has_run_on, stops_on, unwritten}
use Rattle.pv_run.proofs.image.run_image.Goals as goal

pub returns-in_err-ready : goal.returns-in_err-ready
returns-in_err-ready g c =
    let p = err_from_is_err_and c.from_residual.result c.from_residual.ensures.1 in
    rw p.1 (search (rules, neither_written, none_buffered))

pub returns-in_err-summary : goal.returns-in_err-summary
returns-in_err-summary g c =
    let p = err_from_is_err_and c.from_residual-in_err-summary.result c.from_residual-in_err-summary.ensures.1 in
    let tb = g.W.Sink.written c.args.trace.now in
    let ta = g.W.Sink.written c.make_turns.new.trace in
    let ib = g.O.Sink.written c.args.image.now in
    let failures = g.W.Sink.failures c.args.trace.now in
    let now = g.W.Sink.failures c.make_turns.new.trace in
    let refused = stops_on (image_started c.args.bytes.items c.args.schedule.now) c.in_ok-ready.ready.session c.in_ok-ready.ready.schedule c.in_ok-ready.ensures.asked
    c.in_ok-ready.ensures.machine tb ta ib ib c.make_turns.new.ready.session c.in_err-summary.field-0.0 p.0 p.2 failures now
    c.in_err-summary.ensures.written.failed c.in_err-summary.ensures.written.prefix c.in_err-summary.ensures.memory in
    let unwritten = no_image_written tb ta ib ib c.in_err-summary.field-0.0 p.0 p.2 failures now c.in_err-summary.ensures.written.failed in
    rw p.1 (search (rules, refused, unwritten))

pub returns-in_err-write_image : goal.returns-in_err-write_image
returns-in_err-write_image g c =
    let p = err_from_is_err_and c.from_residual-in_err-write_image.result c.from_residual-in_err-write_image.ensures.1 in
    let tb = g.W.Sink.written c.args.trace.now in
    let ta = g.W.Sink.written c.make_turns.new.trace in
    let ib = g.O.Sink.written c.args.image.now in
    let ia = g.O.Sink.written c.write_image.new.image in
    let refused = unwritten (image_started c.args.bytes.items c.args.schedule.now) c.in_ok-ready.ready.session c.in_ok-ready.ready.schedule c.in_ok-ready.ensures.asked
    c.in_ok-ready.ensures.machine tb ta ib ia c.tree.result.now.tree c.make_turns.new.ready.session (c.tree.ensures ∙ ap (λ (s : State). s.tree) c.parts.ensures.value) c.in_ok-summary.ensures.after
    c.in_ok-summary.summary c.in_ok-summary.ensures.ran c.in_ok-summary.ensures.written.whole c.in_err-write_image.field-0.0 p.0 p.2
    c.in_err-write_image.ensures.kind c.in_err-write_image.ensures.cut c.in_err-write_image.ensures.memory in
    let written = image_written tb ta ib ia c.in_err-write_image.field-0.0 p.0 p.2 c.in_err-write_image.ensures.kind c.in_err-write_image.ensures.memory in
    rw p.1 (search (rules, refused, written, none_buffered))

pub returns : goal.returns
returns g c =
    let ran = has_run_on c.args.bytes.items c.args.schedule.now c.in_ok-ready.ready.session c.in_ok-ready.ready.schedule c.in_ok-ready.ensures.asked
    (g.W.Sink.written c.args.trace.now) (g.W.Sink.written c.make_turns.new.trace) (g.O.Sink.written c.args.image.now) (g.O.Sink.written c.write_image.new.image)
    c.tree.result.now.tree c.make_turns.new.ready.session (c.tree.ensures ∙ ap (λ (s : State). s.tree) c.parts.ensures.value) c.in_ok-summary.ensures.after c.in_ok-summary.summary c.in_ok-summary.ensures.ran
    c.in_ok-summary.ensures.written.whole c.in_ok-write_image.ensures.whole in
    search (rules, ran)
