use Rattle.std.proofs.Common.{◌≡◌, drop}
use Rattle.pv_streams.proofs.TextRemainders.{LeavesRest}
use Rattle.pv_model.specs.Machine.{answer_bytes, entries_of_table}
use Rattle.pv_answers.specs.Holdings.{entry_lines}
use Rattle.pv_answers.proofs.HeldLines.{entry_lines_from}
use Rattle.pv_answers.proofs.holding.write_entries.Given as goal

abbrev pub invariant-loop-number : goal.invariant-loop-number
invariant-loop-number g l = record {
  left : LeavesRest (answer_bytes (entry_lines_from l.parts l.pid l.number (drop l.number (entries_of_table l.table.table)))) (answer_bytes (entry_lines l.parts l.pid (entries_of_table l.table.table)))
      (g.W.Sink.written l.initial.out) (g.W.Sink.written l.out);
  quiet : g.W.Sink.failures l.out ≡ g.W.Sink.failures l.initial.out;
}
