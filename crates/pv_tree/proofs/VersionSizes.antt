-- The sizes of both versions.
use Rattle.std.proofs.Common.{ℕ, suc, ◌*◌, ◌<◌, ◌≤◌, arith}
use Rattle.pv_model.specs.declared.version.Version.{Version}
use Rattle.pv_model.specs.declared.version.Version.TheVariants.{V1, V2}
use Rattle.pv_model.specs.Machine.{entry_length, greatest_entries, greatest_length}

-- a directory has room for one more entry
pub entries_allowed : (v : Version) (n : ℕ) → n < greatest_entries v → entry_length v * suc n ≤ greatest_length v
entries_allowed V1 n few = omega arith
entries_allowed V2 n few = omega arith

-- or it does not
pub entries_past : (v : Version) (n : ℕ) → greatest_entries v ≤ n → greatest_length v < entry_length v * suc n
entries_past V1 n many = omega arith
entries_past V2 n many = omega arith

-- the target of a symbolic link is not too long
pub text_allowed : (v : Version) → 1023 ≤ greatest_length v
text_allowed V1 = omega arith
text_allowed V2 = omega arith
