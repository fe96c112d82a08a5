use Rattle.std.proofs.Common.{◌≡◌, length, option_map}
use Rattle.pv_policy.proofs.OfAnswers.ProcessSequence.{records_after}
use Rattle.pv_streams.proofs.TextRemainders.{LeavesRest}
use Rattle.pv_questions.specs.Reasons.{all_reasons}
use Rattle.pv_questions.proofs.ReasonRows.{rows}
use Rattle.pv_questions.proofs.reasons.write_all_reasons.Given as goal

abbrev pub invariant-loop-pid : goal.invariant-loop-pid
invariant-loop-pid g l = record {
  left : LeavesRest (rows (option_map (λ p. p.now) l.path) l.parts l.node (records_after l.last l.parts.processes)) (all_reasons (option_map (λ p. p.now) l.path) l.parts l.node) (g.W.Sink.written l.initial.out) (g.W.Sink.written l.out);
  quiet : g.W.Sink.failures l.out ≡ g.W.Sink.failures l.initial.out;
}

abbrev pub decreases-loop-pid : goal.decreases-loop-pid
decreases-loop-pid g l = length (records_after l.last l.parts.processes)
