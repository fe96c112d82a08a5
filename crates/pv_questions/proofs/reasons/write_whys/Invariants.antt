use Rattle.std.proofs.Common.{◌≡◌, drop, option_map}
use Rattle.pv_run.specs.OfAudit.Reasons.{present_reasons}
use Rattle.pv_streams.proofs.TextRemainders.{LeavesRest}
use Rattle.pv_questions.specs.Reasons.{reason_lines}
use Rattle.pv_questions.proofs.reasons.write_whys.Given as goal

abbrev pub invariant-loop-why : goal.invariant-loop-why
invariant-loop-why g l = record {
  left : LeavesRest (reason_lines (option_map (λ p. p.now) l.path) l.pid (present_reasons (drop l.why-index l.whys))) (reason_lines (option_map (λ p. p.now) l.path) l.pid (present_reasons l.whys)) (g.W.Sink.written l.fn.out) (g.W.Sink.written l.out);
  quiet : g.W.Sink.failures l.out ≡ g.W.Sink.failures l.fn.out;
}
