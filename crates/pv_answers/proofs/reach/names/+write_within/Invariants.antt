use Rattle.std.proofs.Common.{◌≡◌, ◌-◌, length}
use Rattle.pv_model.specs.Machine.{entries_at}
use Rattle.pv_streams.proofs.TextRemainders.{LeavesRest}
use Rattle.pv_answers.specs.Reaching.{lines_under, listed_lines_within, linked_path_bytes, reacher_state}
use Rattle.pv_answers.proofs.ListedLines.{upcoming}
use Rattle.pv_answers.proofs.reach.names.+write_within.Given as goal

abbrev pub decreases-write_within : goal.decreases-write_within
decreases-write_within g l = l.depth

abbrev pub invariant-loop-next : goal.invariant-loop-next
invariant-loop-next g l = record {
  left : LeavesRest (lines_under l.reacher (l.depth - 1) (linked_path_bytes l.path) l.node (upcoming (entries_at (reacher_state l.reacher).tree l.node) l.next))
      (listed_lines_within l.reacher l.depth (linked_path_bytes l.path) l.place l.node) (g.W.Sink.written l.fn.out) (g.W.Sink.written l.out);
  quiet : g.W.Sink.failures l.out ≡ g.W.Sink.failures l.fn.out;
}

abbrev pub decreases-loop-next : goal.decreases-loop-next
decreases-loop-next g l = length (upcoming (entries_at (reacher_state l.reacher).tree l.node) l.next)
