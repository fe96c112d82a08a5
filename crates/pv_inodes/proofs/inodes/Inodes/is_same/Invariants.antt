use Rattle.std.proofs.Common.{◌≡◌, ◌-◌, ◌≤◌, take}
use Rattle.pv_inodes.specs.Files.{inode_bytes_at}
use Rattle.pv_inodes.proofs.inodes.Inodes.is_same.Given as goal

-- the contents are the same so far
abbrev pub invariant-loop-at : goal.invariant-loop-at
invariant-loop-at l = record {
  within : l.at ≤ l.size;
  same : take l.at (inode_bytes_at l.self l.inode) ≡ take l.at (inode_bytes_at l.other l.inode);
}

abbrev pub decreases-loop-at : goal.decreases-loop-at
decreases-loop-at l = l.size - l.at
