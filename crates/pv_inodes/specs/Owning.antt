-- The owners of blocks.
use Rattle.std.specs.Prelude.{◌≡◌, ℕ, ◌+◌, ◌<◌, ◌≤◌, Bool, true, false, if◌then◌else◌, ◌==◌, List, count_by, sum_by, slice_index_or}
use Rattle.std.specs.List.{range_with_len}

-- the sum of a number over all inodes
unfoldable pub sum_over : ℕ → (ℕ → ℕ) → ℕ
sum_over inodes count = sum_by count (range_with_len 0 inodes)

-- the number of flags that are set
unfoldable pub count_set : List Bool → ℕ
count_set flags = count_by (λ is_set. is_set) flags

-- a function with another value at s
unfoldable pub changed : (ℕ → ℕ) → ℕ → ℕ → ℕ → ℕ
changed count s n t = if t == s then n else count t

-- Inode s owns its first `count s` blocks, at most `most`: each is a data block and is not free, no two are the same,
-- and each data block is free or owned.
pub record IsOwning (inodes most first total : ℕ) (free : List Bool) (count : ℕ → ℕ) (owned : ℕ → ℕ → ℕ) : Type 0 where
  pub few : (s : ℕ) → s < inodes → count s ≤ most
  pub from : (s i : ℕ) → s < inodes → i < count s → first ≤ owned s i
  pub within : (s i : ℕ) → s < inodes → i < count s → owned s i < total
  pub taken : (s i : ℕ) → s < inodes → i < count s → slice_index_or free (owned s i) true ≡ false
  pub apart : (s i t j : ℕ) → s < inodes → i < count s → t < inodes → j < count t → owned s i ≡ owned t j → (s ≡ t) × (i ≡ j)
  pub counted : count_set free + sum_over inodes count + first ≡ total
