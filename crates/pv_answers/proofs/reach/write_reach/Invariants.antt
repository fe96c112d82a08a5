use Rattle.std.proofs.Common.{◌≡◌, length}
use Rattle.pv_model.specs.Machine.{answer_bytes, reach_lines}
use Rattle.pv_streams.proofs.TextRemainders.{LeavesRest}
use Rattle.pv_answers.proofs.ProcessSequence.{records_after}
use Rattle.pv_answers.proofs.PermissionLines.{rows}
use Rattle.pv_answers.proofs.reach.write_reach.Given as goal

abbrev pub invariant-loop-pid : goal.invariant-loop-pid
invariant-loop-pid g l = record {
  left : LeavesRest (rows l.parts (records_after l.last l.parts.processes)) (answer_bytes (reach_lines l.parts)) (g.W.Sink.written l.initial.out) (g.W.Sink.written l.out);
  quiet : g.W.Sink.failures l.out ≡ g.W.Sink.failures l.initial.out;
}

abbrev pub decreases-loop-pid : goal.decreases-loop-pid
decreases-loop-pid g l = length (records_after l.last l.parts.processes)
