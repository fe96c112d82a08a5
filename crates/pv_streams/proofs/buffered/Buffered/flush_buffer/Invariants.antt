use Rattle.std.proofs.Common.{◌≡◌, ◌≤◌, ◌-◌, length}
use Rattle.pv_model.specs.Stream.{and_front}
use Rattle.pv_streams.proofs.buffered.Buffered.flush_buffer.Given as goal

abbrev pub invariant-loop-at : goal.invariant-loop-at
invariant-loop-at g l = record {
  within : l.at ≤ length l.initial.self.waiting.items;
  waiting : l.self.waiting ≡ l.initial.self.waiting;
  written : g.W.Sink.written l.self.sink ≡ and_front (g.W.Sink.written l.initial.self.sink) l.at l.initial.self.waiting.items;
  quiet : g.W.Sink.failures l.self.sink ≡ g.W.Sink.failures l.initial.self.sink;
}

abbrev pub decreases-loop-at : goal.decreases-loop-at
decreases-loop-at g l = length l.initial.self.waiting.items - l.at
