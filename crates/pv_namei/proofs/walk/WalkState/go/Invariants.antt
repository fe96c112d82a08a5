use Rattle.std.proofs.Common.{◌≡◌, IsTrue, length}
use Rattle.pv_model.specs.Machine.{is_directory_at, find_entry}
use Rattle.pv_namei.specs.Onward.{remaining}
use Rattle.pv_namei.proofs.walk.WalkState.go.Given as goal

-- the walk so far led to a directory, from which the rest continues
abbrev pub invariant-loop-stop : goal.invariant-loop-stop
invariant-loop-stop g l = record {
  onward : remaining l.tree.tree l.fn.self l.fn.rest ≡ remaining l.tree.tree l.self l.rest;
  directory : IsTrue (is_directory_at l.tree.tree l.self.at);
  links : l.self.links ≡ l.fn.self.links;
  agrees : g.L.Lookup.agrees l.lookup (find_entry l.tree.tree);
}

abbrev pub decreases-loop-stop : goal.decreases-loop-stop
decreases-loop-stop g l = length l.rest
