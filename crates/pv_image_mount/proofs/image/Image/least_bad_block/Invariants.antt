use Rattle.std.proofs.Common.{◌≡◌, ℕ, ◌<◌, ◌≤◌, false}
use Rattle.pv_model.specs.Machine.{has_bad_block}
use Rattle.pv_image_mount.specs.Claims.{HasUsedBefore}
use Rattle.pv_image_mount.proofs.image.Image.least_bad_block.Given as goal

-- the inodes so far are valid, and the set has their blocks
abbrev pub invariant-loop-n : goal.invariant-loop-n
invariant-loop-n l = record {
  passed : (m : ℕ) → 1 ≤ m → m < l.n → has_bad_block l.self.version l.self.bytes.now m ≡ false;
  used : HasUsedBefore l.used l.self.version l.self.bytes.now l.n;
}
