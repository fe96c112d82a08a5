use Rattle.std.proofs.Common.{◌≡◌}
use Rattle.pv_streams.proofs.TextRemainders.{LeavesRest}
use Rattle.pv_answers.specs.Reaching.{unnamed_lines}
use Rattle.pv_answers.proofs.OpenDescriptors.{lines_from}
use Rattle.pv_answers.proofs.reach.unnamed.write_descriptors.Given as goal

abbrev pub invariant-loop-number : goal.invariant-loop-number
invariant-loop-number g l = record {
  left : LeavesRest (lines_from l.reacher l.number) (unnamed_lines l.reacher) (g.W.Sink.written l.initial.out) (g.W.Sink.written l.out);
  quiet : g.W.Sink.failures l.out ≡ g.W.Sink.failures l.initial.out;
}
