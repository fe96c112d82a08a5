use Rattle.std.proofs.Common.{◌≡◌, ◌-◌, ◌<◌, ◌≤◌, ℕ, List, Bor, false, get_or}
use Rattle.std.specs.Prelude.{bytes_eq}
use Rattle.pv_image_mount.proofs.slots.appears_twice.Given as goal

-- no two neighbouring names so far are equal
abbrev pub invariant-loop-i : goal.invariant-loop-i
invariant-loop-i l = (k : ℕ) → k < l.i → (d : Bor (List ℕ)) → 1 ≤ k → bytes_eq (get_or l.names (k - 1) d).now (get_or l.names k d).now ≡ false
