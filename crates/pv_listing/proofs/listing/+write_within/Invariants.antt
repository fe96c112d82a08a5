use Rattle.std.proofs.Common.{◌≡◌, ◌-◌, ◌≤◌, length, take, drop, vec_len}
use Rattle.pv_model.specs.Listing.{lines_within}
use Rattle.pv_model.specs.Machine.{entries_at}
use Rattle.pv_listing.specs.Lines.{entries_after, last_name}
use Rattle.pv_listing.proofs.EntryLines.{entry_lines}
use Rattle.pv_streams.proofs.TextRemainders.{LeavesRest}
use Rattle.pv_listing.proofs.listing.+write_within.Given as goal

abbrev pub decreases-write_within : goal.decreases-write_within
decreases-write_within g l = l.depth

abbrev pub invariant-loop-child : goal.invariant-loop-child
invariant-loop-child g l = record {
  within : l.base ≤ vec_len l.path;
  front : take l.base l.path.items ≡ l.initial.path.items;
  left : LeavesRest (entry_lines l.tree.tree (g.R.Remarks.line l.remarks) (l.depth - 1) l.initial.path.items (entries_after (last_name (drop l.base l.path.items)) (entries_at l.tree.tree l.node)))
      (lines_within l.tree.tree (g.R.Remarks.line l.remarks) l.depth l.fn.path.items l.node) (g.W.Sink.written l.fn.out) (g.W.Sink.written l.out);
  quiet : g.W.Sink.failures l.out ≡ g.W.Sink.failures l.fn.out;
}

abbrev pub decreases-loop-child : goal.decreases-loop-child
decreases-loop-child g l = length (entries_after (last_name (drop l.base l.path.items)) (entries_at l.tree.tree l.node))
