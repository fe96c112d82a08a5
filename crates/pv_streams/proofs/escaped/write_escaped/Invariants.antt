use Rattle.std.proofs.Common.{◌≡◌, length, flat_map}
use Rattle.pv_model.specs.Machine.{quote_byte}
use Rattle.pv_streams.proofs.TextRemainders.{LeavesRest}
use Rattle.pv_streams.proofs.escaped.write_escaped.Given as goal

abbrev pub invariant-loop-rest : goal.invariant-loop-rest
invariant-loop-rest g l = record {
  left : LeavesRest (flat_map quote_byte l.rest) (flat_map quote_byte l.bytes) (g.W.Sink.written l.initial.out) (g.W.Sink.written l.out);
  quiet : g.W.Sink.failures l.out ≡ g.W.Sink.failures l.initial.out;
}

abbrev pub decreases-loop-rest : goal.decreases-loop-rest
decreases-loop-rest g l = length l.rest
