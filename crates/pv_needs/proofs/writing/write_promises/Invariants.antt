use Rattle.std.proofs.Common.{◌≡◌, take}
use Rattle.std.specs.List.{flat_map, zip}
use Rattle.pv_model.specs.Machine.{answer_bytes}
use Rattle.pv_streams.specs.Sinks.{and_all}
use Rattle.pv_needs.specs.RecordedLines.{recorded_promise_lines}
use Rattle.pv_needs.proofs.writing.write_promises.Given as goal

abbrev pub invariant-loop-k : goal.invariant-loop-k
invariant-loop-k g l = record {
  written : g.W.Sink.written l.out ≡ and_all (g.W.Sink.written l.initial.out) (answer_bytes (flat_map (λ e. recorded_promise_lines l.pid e.0 e.1) (take l.k (zip l.all l.promises))));
  quiet : g.W.Sink.failures l.out ≡ g.W.Sink.failures l.initial.out;
}
