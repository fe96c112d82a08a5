use Rattle.std.proofs.Common.{◌≡◌, take}
use Rattle.std.specs.List.{flat_map}
use Rattle.pv_model.specs.Machine.{answer_bytes, counted_from}
use Rattle.pv_streams.specs.Sinks.{and_all}
use Rattle.pv_needs.specs.RecordedLines.{recorded_process_lines}
use Rattle.pv_needs.proofs.writing.write_processes.Given as goal

abbrev pub invariant-loop-pid : goal.invariant-loop-pid
invariant-loop-pid g l = record {
  written : g.W.Sink.written l.out ≡ and_all (g.W.Sink.written l.initial.out) (answer_bytes (flat_map (λ e. recorded_process_lines e.0 e.1) (take l.pid (counted_from 0 l.processes))));
  quiet : g.W.Sink.failures l.out ≡ g.W.Sink.failures l.initial.out;
}
