-- The position of inodes in the tree.
use Rattle.std.specs.Prelude.{◌≡◌, ℕ, Bool, ◌==◌, if◌then◌else◌, List, [], ◌∷◌, ◌++◌, map, count_by}
use Rattle.std.specs.List.{list_any, IsDistinct}
use Rattle.pv_blocks.specs.declared.block_set.BlockSet.{BlockSet}
use Rattle.pv_blocks.specs.BlockSet.{is_member}
use Rattle.pv_model.specs.declared.version.Version.{Version}
use Rattle.pv_model.specs.Machine.{Bytes, slot_number, slots_at}

-- the inode numbers in the slots of a directory, or none if the inode is not a directory
unfoldable pub targets_of : Version → Bytes → ℕ → List ℕ
targets_of v bytes n = map slot_number (slots_at v bytes n)

abbrev pub is_among : List ℕ → ℕ → Bool
is_among numbers k = list_any (λ other. other == k) numbers

-- the number of occurrences of k
unfoldable pub occurrences_of : ℕ → List ℕ → ℕ
occurrences_of k numbers = count_by (λ other. other == k) numbers

-- the list with k at its end, unless it contains k
abbrev pub with_number_last : List ℕ → ℕ → List ℕ
with_number_last numbers k = if is_among numbers k then numbers else numbers ++ k ∷ []

-- the list with those of the others at its end that it does not contain
abbrev pub joined_numbers : List ℕ → List ℕ → List ℕ
joined_numbers numbers [] = numbers
joined_numbers numbers (k ∷ ks) = joined_numbers (with_number_last numbers k) ks

-- the set contains the numbers of the list, where each occurs once
pub record HasEach (set : BlockSet) (numbers : List ℕ) : Type 0 where
  pub members : (k : ℕ) → is_member set k ≡ is_among numbers k
  pub once : IsDistinct ◌==◌ numbers
