use Rattle.std.proofs.Common.{◌≡◌, ◌+◌, ◌-◌, true}
use Rattle.pv_model.specs.Machine.{contains_directory, is_directory_at}
use Rattle.pv_tree.proofs.ParentChanges.{is_among}
use Rattle.pv_tree.proofs.tree.Tree.contains.Given as goal

abbrev pub invariant-loop-step : goal.invariant-loop-step
invariant-loop-step l =
    (is_directory_at l.self.tree l.reached ≡ true)
    × (is_among l.self.tree l.node (l.self.tree.inodes + 1 - l._step) l.reached ≡ contains_directory l.self.tree l.node l.directory)
