use Rattle.std.proofs.Common.{◌≡◌, take}
use Rattle.std.specs.List.{flat_map}
use Rattle.pv_model.specs.Machine.{answer_bytes}
use Rattle.pv_streams.specs.Sinks.{and_all}
use Rattle.pv_needs.specs.RecordedLines.{recorded_target_lines}
use Rattle.pv_needs.proofs.writing.write_targets.Given as goal

abbrev pub invariant-loop-target : goal.invariant-loop-target
invariant-loop-target g l = record {
  written : g.W.Sink.written l.out ≡ and_all (g.W.Sink.written l.initial.out) (answer_bytes (flat_map (recorded_target_lines l.pid) (take l.target-index (l.targets))));
  quiet : g.W.Sink.failures l.out ≡ g.W.Sink.failures l.initial.out;
}
