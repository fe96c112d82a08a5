use Rattle.std.proofs.Common.{◌≡◌, drop}
use Rattle.pv_streams.proofs.TextRemainders.{LeavesRest}
use Rattle.pv_model.specs.Trace.{hex}
use Rattle.pv_answers.proofs.numbers.HexFragment.write.Given as goal

abbrev pub invariant-loop-byte : goal.invariant-loop-byte
invariant-loop-byte g l = record {
  left : LeavesRest (hex (drop l.byte-index l.self.0.now)) (hex l.self.0.now) (g.W.Sink.written l.initial.out) (g.W.Sink.written l.out);
  quiet : g.W.Sink.failures l.out ≡ g.W.Sink.failures l.initial.out;
}
