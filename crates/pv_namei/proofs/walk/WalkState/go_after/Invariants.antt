use Rattle.std.proofs.Common.{◌≡◌, IsTrue}
use Rattle.pv_model.specs.Machine.{link_text, node_at, is_directory_at, find_entry}
use Rattle.pv_namei.specs.Onward.{followed, remaining}
use Rattle.pv_namei.proofs.walk.WalkState.go_after.Given as goal

-- the walk so far led to a directory, from which these components continue
abbrev pub invariant-loop-place : goal.invariant-loop-place
invariant-loop-place g l = record {
  onward : followed l.tree.tree l.fn.self l.fn.rest (link_text (node_at l.tree.tree l.link)) ≡ remaining l.tree.tree l.self l.here;
  directory : IsTrue (is_directory_at l.tree.tree l.self.at);
  agrees : g.L.Lookup.agrees l.lookup (find_entry l.tree.tree);
}

abbrev pub decreases-loop-place : goal.decreases-loop-place
decreases-loop-place g l = l.self.links
