use Rattle.std.proofs.Common.{◌≡◌, ◌-◌, ◌≤◌, length, take}
use Rattle.pv_model.specs.Machine.{overwrite}
use Rattle.pv_inodes.specs.Files.{inode_bytes_at, files_with_bytes}
use Rattle.pv_inodes.proofs.inodes.Inodes.overwrite.Given as goal

-- a prefix of the bytes is written
abbrev pub invariant-loop-done : goal.invariant-loop-done
invariant-loop-done l = record {
  within : l.done ≤ length l.bytes;
  written : l.self ≡ files_with_bytes l.initial.self l.inode (overwrite (inode_bytes_at l.initial.self l.inode) l.at (take l.done l.bytes));
}

abbrev pub decreases-loop-done : goal.decreases-loop-done
decreases-loop-done l = length l.bytes - l.done
