use Rattle.std.proofs.Common.{◌∙◌, subst, rules}
use Rattle.pv_model.specs.Machine.{Schedule, trace_bytes}
use Rattle.pv_session.specs.Running.{WrittenLines, run_of}
use Rattle.pv_streams.proofs.SinkWrites.{begins_whole}
use Rattle.pv_streams.proofs.OutputTexts.{on_err}
use Rattle.pv_run.proofs.turns.make_turns.Goals as goal

pub returns-in_err-flush_buffer-in-Ok-clause-written : goal.returns-in_err-flush_buffer-in-Ok-clause-written
returns-in_err-flush_buffer-in-Ok-clause-written g c =
    let s = c.args.ready.now.session in
    record {
      whole = search rules;
      prefix = on_err c.from_residual.result
          (begins_whole (trace_bytes (run_of s c.args.ready.now.schedule).lines) (g.W.Sink.written c.args.trace.now) (g.W.Sink.written c.flush_buffer.new.trace)
          (subst (λ (sch : Schedule). WrittenLines (run_of s sch).lines (g.W.Sink.written c.args.trace.now) (g.W.Sink.written c.flush_buffer.new.trace)) c.turns-2.ensures.value
          (c.flush_buffer.ensures.preserved ∙ c.in-Ok.ensures.written.whole)));
      failed = search rules;
      quiet = search rules;
    }
