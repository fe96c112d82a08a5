-- The members of a set of block numbers.
use Rattle.std.specs.Prelude.{◌≡◌, ℕ, ◌/◌, ◌%◌, ◌<◌, ◌≤◌, Bool, true, ◌==◌, slice_index}
use Rattle.std.specs.Int.{bit_at}
use Rattle.pv_blocks.specs.declared.block_set.BlockSet.{BlockSet}

-- whether a number is in the set: its bit is set
unfoldable pub is_member : BlockSet → ℕ → Bool
is_member s k = bit_at (slice_index s.words (k / 64)) (k % 64) == 1

-- each number in from..end is in the set
abbrev pub AllMembers : BlockSet → ℕ → ℕ → Type 0
AllMembers s from end = (k : ℕ) → from ≤ k → k < end → is_member s k ≡ true
