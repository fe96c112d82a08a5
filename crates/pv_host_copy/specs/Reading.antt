-- Reading a file up to a maximum length.
use Rattle.std.specs.Prelude.{◌≡◌, ℕ, ◌<◌, ◌≤◌, length, Option, None, Some}
use Rattle.std.specs.Global.{Vec}
use Rattle.pv_model.specs.Machine.{Bytes}

-- all bytes, or nothing if there are more than the limit
abbrev pub AreBytesWithin : ℕ → Bytes → Option (Vec ℕ) → Type 0
AreBytesWithin limit all None = limit < length all
AreBytesWithin limit all (Some bytes) = (bytes.items ≡ all) × (length all ≤ limit)
