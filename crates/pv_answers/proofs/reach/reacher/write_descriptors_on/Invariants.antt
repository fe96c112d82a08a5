use Rattle.std.proofs.Common.{◌≡◌}
use Rattle.pv_streams.proofs.TextRemainders.{LeavesRest}
use Rattle.pv_answers.specs.Reaching.{all_on}
use Rattle.pv_answers.proofs.OpenDescriptors.{words_from}
use Rattle.pv_answers.proofs.reach.reacher.write_descriptors_on.Given as goal

abbrev pub invariant-loop-number : goal.invariant-loop-number
invariant-loop-number g l = record {
  left : LeavesRest (words_from l.reacher l.node l.number) (all_on l.reacher l.node) (g.W.Sink.written l.initial.out) (g.W.Sink.written l.out);
  quiet : g.W.Sink.failures l.out ≡ g.W.Sink.failures l.initial.out;
}
