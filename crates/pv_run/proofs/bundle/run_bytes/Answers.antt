use Rattle.std.proofs.Common.{rules}
use Rattle.pv_model.specs.Machine.{bundle_started}
use Rattle.pv_run.proofs.RunPrefixes.{has_run, appears}
use Rattle.pv_run.proofs.bundle.run_bytes.Goals as goal

pub returns : goal.returns
returns g c =
    let before = g.W.Sink.written c.args.trace.now in
    let after = g.W.Sink.written c.make_turns.new.trace in
    let ready = c.in_ok-ready.ready in
    let ran = has_run c.args.bytes.now ready.session ready.schedule c.in_ok-ready.ensures.asked before after c.make_turns.result c.make_turns.ensures.ran c.make_turns.ensures.written.whole in
    let refused = appears (bundle_started c.args.bytes.now) ready.session ready.schedule c.in_ok-ready.ensures.asked c.in_ok-ready.ensures.machine
    before after c.make_turns.new.ready.session c.make_turns.result (g.W.Sink.failures c.args.trace.now) (g.W.Sink.failures c.make_turns.new.trace)
    c.make_turns.ensures.written.prefix c.make_turns.ensures.written.failed c.make_turns.ensures.memory in
    search (rules, ran, refused)
