use Rattle.std.proofs.Common.{◌≡◌, drop, map}
use Rattle.pv_streams.proofs.TextRemainders.{LeavesRest}
use Rattle.pv_model.specs.Machine.{answer_bytes}
use Rattle.pv_access.specs.Unread.{unread_file_line}
use Rattle.pv_access.proofs.unread.write_files.Given as goal

abbrev pub invariant-loop-file : goal.invariant-loop-file
invariant-loop-file g l = record {
  left : LeavesRest (answer_bytes (map (unread_file_line l.tree.tree) (drop l.file-index l.files))) (answer_bytes (map (unread_file_line l.tree.tree) l.files)) (g.W.Sink.written l.fn.out) (g.W.Sink.written l.out);
  quiet : g.W.Sink.failures l.out ≡ g.W.Sink.failures l.fn.out;
}
