use Rattle.std.proofs.Common.{◌≡◌}
use Rattle.pv_streams.proofs.TextRemainders.{LeavesRest}
use Rattle.pv_answers.specs.Reaching.{absent_lines}
use Rattle.pv_answers.proofs.AbsentNameEntries.{absent_from}
use Rattle.pv_answers.proofs.reach.unnamed.write_absents.Given as goal

abbrev pub invariant-loop-number : goal.invariant-loop-number
invariant-loop-number g l = record {
  left : LeavesRest (absent_from l.reacher l.number) (absent_lines l.reacher) (g.W.Sink.written l.initial.out) (g.W.Sink.written l.out);
  quiet : g.W.Sink.failures l.out ≡ g.W.Sink.failures l.initial.out;
}
