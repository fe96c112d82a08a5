use Rattle.std.proofs.Common.{◌≤◌, ◌-◌, length, take}
use Rattle.pv_image_write.specs.OfDirs.Trees.{node_bytes_at}
use Rattle.pv_state_encoding.specs.Packed.{IsAdded}
use Rattle.pv_state_encoding.proofs.trees.push_runs.Given as goal

abbrev pub invariant-loop-at : goal.invariant-loop-at
invariant-loop-at l = record {
  within : l.at ≤ length (node_bytes_at l.tree.tree l.node);
  added : IsAdded (take l.at (node_bytes_at l.tree.tree l.node)) l.fn.key.items l.key.items;
}

abbrev pub decreases-loop-at : goal.decreases-loop-at
decreases-loop-at l = l.size - l.at
