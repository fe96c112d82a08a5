use Rattle.std.proofs.Common.{◌≡◌, drop, map}
use Rattle.std.specs.Fmt.{signed_decimal}
use Rattle.pv_streams.proofs.TextRemainders.{LeavesRest}
use Rattle.pv_model.specs.Machine.{spaced}
use Rattle.pv_answers.specs.Texts.{words_after}
use Rattle.std.specs.Prelude.{false}
use Rattle.pv_answers.proofs.numbers.SpacedFragment.write.Given as goal

abbrev pub invariant-loop-number : goal.invariant-loop-number
invariant-loop-number g l = record {
  left : LeavesRest (words_after false (map signed_decimal (drop l.number-index l.following))) (spaced (map signed_decimal l.self.0.now)) (g.W.Sink.written l.fn.out) (g.W.Sink.written l.out);
  quiet : g.W.Sink.failures l.out ≡ g.W.Sink.failures l.fn.out;
}
