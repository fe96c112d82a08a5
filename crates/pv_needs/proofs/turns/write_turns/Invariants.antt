use Rattle.std.proofs.Common.{◌≡◌}
use Rattle.pv_needs.proofs.TurnsLines.{AreWritten}
use Rattle.pv_needs.proofs.turns.write_turns.Given as goal

abbrev pub invariant-loop-left : goal.invariant-loop-left
invariant-loop-left g l = record {
  lines : AreWritten l.slice l.steps l.initial.session l.left l.last l.session (g.W.Sink.written l.fn.out) (g.W.Sink.written l.out);
  quiet : g.W.Sink.failures l.out ≡ g.W.Sink.failures l.fn.out;
}

abbrev pub decreases-loop-left : goal.decreases-loop-left
decreases-loop-left g l = l.left
