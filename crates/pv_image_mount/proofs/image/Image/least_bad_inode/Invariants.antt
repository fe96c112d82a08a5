use Rattle.std.proofs.Common.{◌≡◌, ℕ, ◌<◌, ◌≤◌, false}
use Rattle.pv_model.specs.Machine.{has_bad_inode}
use Rattle.pv_image_mount.proofs.image.Image.least_bad_inode.Given as goal

-- the inodes so far are valid
abbrev pub invariant-loop-n : goal.invariant-loop-n
invariant-loop-n l = (m : ℕ) → 1 ≤ m → m < l.n → has_bad_inode l.self.version l.self.bytes.now m ≡ false
