use Rattle.std.proofs.Common.{◌≡◌, drop}
use Rattle.pv_streams.proofs.TextRemainders.{LeavesRest}
use Rattle.pv_model.specs.Machine.{spaced, all_promises}
use Rattle.pv_answers.specs.Texts.{keywords_in, words_after}
use Rattle.pv_answers.proofs.lines.write_keywords.Given as goal

abbrev pub invariant-loop-promise : goal.invariant-loop-promise
invariant-loop-promise g l = record {
  left : LeavesRest (words_after l.is_first (keywords_in l.promises.0 (drop l.promise-index all_promises))) (spaced (keywords_in l.promises.0 all_promises))
      (g.W.Sink.written l.initial.out) (g.W.Sink.written l.out);
  quiet : g.W.Sink.failures l.out ≡ g.W.Sink.failures l.initial.out;
}
