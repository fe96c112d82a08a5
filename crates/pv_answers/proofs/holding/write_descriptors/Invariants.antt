use Rattle.std.proofs.Common.{◌≡◌, drop}
use Rattle.pv_streams.proofs.TextRemainders.{LeavesRest}
use Rattle.pv_model.specs.Machine.{answer_bytes}
use Rattle.pv_answers.specs.Holdings.{descriptor_lines}
use Rattle.pv_answers.proofs.HeldLines.{descriptor_lines_from}
use Rattle.pv_answers.proofs.holding.write_descriptors.Given as goal

abbrev pub invariant-loop-number : goal.invariant-loop-number
invariant-loop-number g l = record {
  left : LeavesRest (answer_bytes (descriptor_lines_from l.parts l.pid l.number (drop l.number l.owned.descriptors))) (answer_bytes (descriptor_lines l.parts l.pid l.owned.descriptors))
      (g.W.Sink.written l.initial.out) (g.W.Sink.written l.out);
  quiet : g.W.Sink.failures l.out ≡ g.W.Sink.failures l.initial.out;
}
