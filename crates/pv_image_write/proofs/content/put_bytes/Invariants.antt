use Rattle.std.proofs.Common.{◌≡◌, ◌≤◌, ◌+◌, ◌-◌, ◌++◌, length, take, vec_capacity, vec_len}
use Rattle.pv_tree.specs.OfDirs.Trees.{node_bytes_at}
use Rattle.pv_image_write.proofs.content.put_bytes.Given as goal

-- the bytes so far follow the old ones
abbrev pub invariant-loop-at : goal.invariant-loop-at
invariant-loop-at l = record {
  within : l.at ≤ length (node_bytes_at l.tree.tree l.node);
  text : l.bytes.items ≡ l.fn.bytes.items ++ take l.at (node_bytes_at l.tree.tree l.node);
  len : vec_len l.bytes ≡ vec_len l.fn.bytes + l.at;
  room : vec_capacity l.fn.bytes ≤ vec_capacity l.bytes;
}

abbrev pub decreases-loop-at : goal.decreases-loop-at
decreases-loop-at l = l.size - l.at
