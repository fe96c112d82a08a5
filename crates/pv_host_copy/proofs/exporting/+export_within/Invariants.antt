use Rattle.std.proofs.Common.{◌≡◌, ◌-◌, ◌≤◌, length, take, drop, vec_len}
use Rattle.pv_listing.specs.Lines.{entries_after, last_name}
use Rattle.pv_model.specs.Machine.{entries_at}
use Rattle.pv_host_copy.proofs.ExportSteps.{EncodesOn}
use Rattle.pv_host_copy.proofs.exporting.+export_within.Given as goal

abbrev pub decreases-export_within : goal.decreases-export_within
decreases-export_within g l = l.depth

abbrev pub invariant-loop-child : goal.invariant-loop-child
invariant-loop-child g l = record {
  within : l.base ≤ vec_len l.path;
  front : take l.base l.path.items ≡ l.fn.path.items;
  encoded : EncodesOn l.tree.tree (l.depth - 1) l.fn.path.items (entries_after (last_name (drop l.base l.path.items)) (entries_at l.tree.tree l.node)) (entries_at l.tree.tree l.node)
      l.fn.firsts.items (g.T.HostTarget.made l.fn.target) l.firsts.items (g.T.HostTarget.made l.target);
}

abbrev pub decreases-loop-child : goal.decreases-loop-child
decreases-loop-child g l = length (entries_after (last_name (drop l.base l.path.items)) (entries_at l.tree.tree l.node))
