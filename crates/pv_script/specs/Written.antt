-- The part of a buffer that was written.
use Rattle.std.specs.Prelude.{◌≡◌, ◌≤◌, ◌-◌, ℕ, length, drop, replicate}
use Rattle.pv_model.specs.declared.limits.TheConstants.{BUFFER}
use Rattle.pv_model.specs.Machine.{Bytes}

-- the bytes are those of a buffer, and all from `used` on are zero
pub record IsZeroAfter (bytes : Bytes) (used : ℕ) : Type 0 where
  pub whole : length bytes ≡ BUFFER
  pub within : used ≤ BUFFER
  pub following : drop used bytes ≡ replicate (BUFFER - used) 0
