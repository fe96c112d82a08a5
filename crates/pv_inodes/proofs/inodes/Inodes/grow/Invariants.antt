use Rattle.std.proofs.Common.{◌≡◌, ◌-◌, ◌≤◌, length}
use Rattle.pv_model.specs.Machine.{resize}
use Rattle.pv_inodes.specs.Files.{inode_bytes_at, files_with_bytes}
use Rattle.pv_inodes.proofs.inodes.Inodes.grow.Given as goal

-- the contents have the length so far
abbrev pub invariant-loop-length : goal.invariant-loop-length
invariant-loop-length l = record {
  longer : length (inode_bytes_at l.initial.self l.inode) ≤ l.length;
  within : l.length ≤ l.size;
  grown : l.self ≡ files_with_bytes l.initial.self l.inode (resize (inode_bytes_at l.initial.self l.inode) l.length);
}

abbrev pub decreases-loop-length : goal.decreases-loop-length
decreases-loop-length l = l.size - l.length
