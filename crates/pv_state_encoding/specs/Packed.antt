-- Numbers as bytes: a small number takes one byte.
use Rattle.std.specs.Prelude.{◌≡◌, ℕ, Bool, zero, suc, ◌+◌, ◌/◌, ◌%◌, if◌then◌else◌, nat_lt, [], ◌∷◌, ◌++◌, flat_map}
use Rattle.pv_model.specs.Machine.{Numbers, Bytes}

-- seven bits in each byte, the lowest first, in at most this many bytes before the last; a byte of 128 or more is
-- followed by another
abbrev pub packed_in : ℕ → ℕ → Bytes
packed_in zero n = n ∷ []
packed_in (suc k) n = if nat_lt n 128 then n ∷ [] else (128 + n % 128) ∷ packed_in k (n / 128)

-- a number of 64 bits in at most ten bytes
unfoldable pub packed : ℕ → Bytes
packed n = packed_in 9 n

abbrev pub packed_all : Numbers → Bytes
packed_all ns = flat_map packed ns

-- a number that is encoded as one byte, itself
abbrev pub is_small : ℕ → Bool
is_small n = nat_lt n 128

-- the encoding of numbers is appended
pub record IsAdded (ns : Numbers) (old new : Bytes) : Type 0 where
  pub is : new ≡ old ++ packed_all ns
