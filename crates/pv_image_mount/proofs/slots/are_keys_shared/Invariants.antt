use Rattle.std.proofs.Common.{◌≡◌, ◌-◌, ◌<◌, ◌≤◌, ℕ, false, get_or}
use Rattle.std.specs.Prelude.{◌==◌}
use Rattle.pv_image_mount.proofs.slots.are_keys_shared.Given as goal

-- no two neighbouring keys so far are equal
abbrev pub invariant-loop-i : goal.invariant-loop-i
invariant-loop-i l = (k : ℕ) → k < l.i → (d : ℕ) → 1 ≤ k → (get_or l.keys (k - 1) d == get_or l.keys k d) ≡ false
