use Rattle.std.proofs.Common.{◌≡◌, ◌-◌, ◌≤◌, ◌++◌, take, drop}
use Rattle.pv_inodes.specs.Files.{inode_bytes_at}
use Rattle.pv_inodes.proofs.inodes.Inodes.read_at.Given as goal

-- a prefix of the buffer is read
abbrev pub invariant-loop-done : goal.invariant-loop-done
invariant-loop-done l = record {
  within : l.done ≤ l.count;
  front : l.buffer ≡ take l.done (drop l.at (inode_bytes_at l.self l.inode)) ++ drop l.done l.initial.buffer;
}

abbrev pub decreases-loop-done : goal.decreases-loop-done
decreases-loop-done l = l.count - l.done
