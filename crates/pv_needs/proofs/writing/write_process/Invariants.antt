use Rattle.std.proofs.Common.{◌≡◌, take}
use Rattle.std.specs.List.{flat_map}
use Rattle.pv_model.specs.Machine.{answer_bytes, counted_from}
use Rattle.pv_streams.specs.Sinks.{and_all}
use Rattle.pv_needs.specs.RecordedLines.{recorded_image_lines}
use Rattle.pv_needs.proofs.writing.write_process.Given as goal

abbrev pub invariant-loop-k : goal.invariant-loop-k
invariant-loop-k g l = record {
  written : g.W.Sink.written l.out ≡ and_all (g.W.Sink.written l.initial.out) (answer_bytes (flat_map (recorded_image_lines l.pid) (take l.k (counted_from 1 l.process_images))));
  quiet : g.W.Sink.failures l.out ≡ g.W.Sink.failures l.initial.out;
}
