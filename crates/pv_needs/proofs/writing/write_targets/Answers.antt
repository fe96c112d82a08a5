use Rattle.std.proofs.Common.{subst, rules}
use Rattle.pv_model.specs.Machine.{answer_bytes}
use Rattle.pv_streams.proofs.OutputTexts.{on_err}
use Rattle.pv_streams.specs.Sinks.{WritesPrefix}
use Rattle.pv_needs.specs.RecordedLines.{recorded_target_lines}
use Rattle.pv_needs.proofs.LineBytes.{begins-next}
use Rattle.pv_needs.proofs.writing.write_targets.Goals as goal

pub returns-in_err-write_target_line : goal.returns-in_err-write_target_line
returns-in_err-write_target_line g c = record {
  whole = search rules;
  prefix =
      (on_err c.from_residual.result
      (begins-next (recorded_target_lines c.args.pid) c.args.targets.now c.loop-target.target-index c.target-item.result c.loop-target-test.true _ _ _ c.loop-target.invariant.written
      (subst (λ t. WritesPrefix (answer_bytes (recorded_target_lines c.args.pid t)) (g.W.Sink.written c.loop-target.out) (g.W.Sink.written c.write_target_line.new.out))
      c.target-item.is c.in_err-write_target_line.ensures.prefix)));
  failed = search rules;
  quiet = search rules;
}
