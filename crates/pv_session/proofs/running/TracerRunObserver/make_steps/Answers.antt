use Rattle.std.proofs.Common.{arith, refl}
use Rattle.pv_session.specs.declared.running.Tracer.{Tracer}
use Rattle.pv_session.specs.Observing.{observed}
use Rattle.pv_session.specs.Tracing.{TracesStep}
use Rattle.pv_session.proofs.TracedRuns.{traces-first}
use Rattle.pv_session.proofs.running.TracerRunObserver.make_steps.Goals as goal

pub returns-then-lines-gt0-clause-made : goal.returns-then-lines-gt0-clause-made
returns-then-lines-gt0-clause-made g c =
    let ok = c.in_ok-lines.ensures in
    let left : Tracer = record { lines = c.saturating_add-self.result } in (
      observed c.trace_step.new.self left c.trace_step.new.trace,
      record {
        after = ok.after;
        written = ok.written.whole;
        quiet = ok.written.quiet;
        few = omega (arith, ok.lines, ok.few);
        counted = omega (arith, ok.lines, c.saturating_add-self.ensures);
      },
      refl,
    )

pub returns-clause-made : goal.returns-clause-made
returns-clause-made g c =
    let ok = c.in_ok-lines.ensures in
    let left : Tracer = record { lines = c.saturating_add-self.result } in
    let first : TracesStep g.W.Sink c.args.pid (observed c.args.session.now c.args.self.now c.args.out.now) (observed c.trace_step.new.self left c.trace_step.new.trace) = record {
      after = ok.after;
      written = ok.written.whole;
      quiet = ok.written.quiet;
      few = omega (arith, ok.lines, ok.few);
      counted = omega (arith, ok.lines, c.saturating_add-self.ensures);
    } in
    traces-first g.W.Sink c.pass.result c.args.pid c.args.session.now c.trace_step.new.self c.pass.new.self c.args.self.now left c.args.out.now c.trace_step.new.trace
    first c.pass.ensures.after c.pass.ensures.no_lines
