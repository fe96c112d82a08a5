-- Numbers of inodes.
use Rattle.std.specs.Prelude.{ℕ, ◌≤◌}
use Rattle.pv_model.specs.Machine.{Bytes, inode_number}

-- the number of an inode of the image
abbrev pub IsInodeNumber : Bytes → ℕ → Type 0
IsInodeNumber bytes n = (1 ≤ n) × (n ≤ inode_number bytes)
