-- The tests of one inode, as conditions.
use Rattle.std.specs.Prelude.{◌≡◌, ◌≢◌, ◌↔◌, ℕ, ◌%◌, ◌<◌, ◌≤◌, Bool, not, ◌||◌, ◌==◌, IsTrue, IsFalse, List, map, length, Some, bytes_eq}
use Rattle.std.specs.List.{AllByRecursion, list_any}
use Rattle.pv_model.specs.declared.limits.TheConstants.{LINK_TEXT}
use Rattle.pv_model.specs.declared.version.Version.{Version}
use Rattle.pv_model.specs.Machine.{Bytes, inode_blocks, inode, size, content, slot_number, slot_length, slot_name, appears_twice, block_number, inode_number, kind, is_free, has_bad_inode, has_bad_block, slots_at, has_bad_content, name_count, is_reached_within, tree_in, entry_length, greatest_length, root, find_entry, names_of, greatest_name, is_name, IsReached}
use Rattle.pv_model.specs.Image.{stored_count}
use Rattle.pv_model.specs.Mount.{used_by, used_before, may_be_named, has_bad_place}

-- a valid kind, and a size that it may have
pub record IsFineInode (v : Version) (k s : ℕ) : Type 0 where
  pub kinds : k ≤ 4
  pub allowed : k ≢ 0 → s ≤ greatest_length v
  pub whole : k ≡ 1 → s % entry_length v ≡ 0
  pub text : k ≡ 4 → (1 ≤ s) × (s ≤ LINK_TEXT)

-- whether two lists have an element in common
abbrev pub have_common_element : List ℕ → List ℕ → Bool
have_common_element xs ys = list_any (λ k. list_any (λ other. other == k) xs) ys

-- the number of a data block
abbrev pub IsData : Version → Bytes → ℕ → Type 0
IsData v bytes k = (inode_blocks v (inode_number bytes) < k) × (k < block_number bytes)

-- an inode uses distinct data blocks, and none that an inode with a lesser number uses
pub record AreFineBlocks (v : Version) (bytes : Bytes) (n : ℕ) : Type 0 where
  pub in_data : AllByRecursion (IsData v bytes) (used_by v bytes n)
  pub once : IsFalse (appears_twice ◌==◌ (used_by v bytes n))
  pub apart : IsFalse (have_common_element (used_before v bytes n) (used_by v bytes n))

-- a slot has the number of an inode in use, and a valid name
pub record IsFineSlot (v : Version) (bytes slot : Bytes) : Type 0 where
  pub from_one : 1 ≤ slot_number slot
  pub in_table : slot_number slot ≤ inode_number bytes
  pub used : IsFalse (is_free v bytes (slot_number slot))
  pub short : slot_length slot ≤ greatest_name v
  pub named : IsTrue (is_name v (slot_name slot))

-- a directory has valid slots with distinct names, and a link's text contains no zero byte
pub record IsFineContent (v : Version) (bytes : Bytes) (n : ℕ) : Type 0 where
  pub slots : AllByRecursion (IsFineSlot v bytes) (slots_at v bytes n)
  pub once : IsFalse (appears_twice bytes_eq (map slot_name (slots_at v bytes n)))
  pub text : IsTrue (kind v bytes n == 4) → IsFalse (list_any (λ b. b == 0) (content v bytes n))

-- the number of names is allowed for the kind and equals the stored count, and slots lead to the inode from the root
pub record IsInPlace (v : Version) (bytes : Bytes) (n : ℕ) : Type 0 where
  pub named : IsTrue (may_be_named v bytes n (name_count v bytes n))
  pub stored : stored_count v (inode v bytes n) ≡ name_count v bytes n
  pub reached : IsTrue (is_reached_within v bytes (inode_number bytes) n)

-- whether an inode must have a place: the root, and every inode that is not free
abbrev pub is_placed : Version → Bytes → ℕ → Bool
is_placed v bytes n = (n == root) || not (is_free v bytes n)

-- no directory contains a name twice
pub record EachOnce (v : Version) (bytes : Bytes) : Type 0 where
  pub once : (d : ℕ) → 1 ≤ d → d ≤ inode_number bytes → IsFalse (appears_twice bytes_eq (map slot_name (slots_at v bytes d)))

-- there is an inode, and each entry names one
pub record HasInodes (v : Version) (bytes : Bytes) : Type 0 where
  pub some : 1 ≤ inode_number bytes
  pub entries : (d : ℕ) (name : Bytes) (n : ℕ) → find_entry (tree_in v bytes) d name ≡ Some n → (1 ≤ n) × (n ≤ inode_number bytes)

-- ---- the laws

abbrev pub InodesAreTested : Type 0
InodesAreTested = (v : Version) (bytes : Bytes) (n : ℕ) → IsFalse (has_bad_inode v bytes n) ↔ IsFineInode v (kind v bytes n) (size v bytes n)

abbrev pub BlocksAreTested : Type 0
BlocksAreTested = (v : Version) (bytes : Bytes) (n : ℕ) → IsFalse (has_bad_block v bytes n) ↔ AreFineBlocks v bytes n

abbrev pub ContentsAreTested : Type 0
ContentsAreTested = (v : Version) (bytes : Bytes) (n : ℕ) → IsFalse (has_bad_content v bytes n) ↔ IsFineContent v bytes n

abbrev pub PlacesAreTested : Type 0
PlacesAreTested = (v : Version) (bytes : Bytes) (n : ℕ) → IsFalse (has_bad_place v bytes n) ↔ (IsTrue (is_placed v bytes n) → IsInPlace v bytes n)

-- a node has one name for each slot that contains its number
abbrev pub NamesAreSlots : Type 0
NamesAreSlots = (v : Version) (bytes : Bytes) (n : ℕ) → EachOnce v bytes → length (names_of (tree_in v bytes) n) ≡ name_count v bytes n

-- a node that entries reach from the root is reached within n steps, if there are n inodes
abbrev pub ReachedInFewSteps : Type 0
ReachedInFewSteps =
    (v : Version) (bytes : Bytes) (n : ℕ) → EachOnce v bytes → HasInodes v bytes
    → IsTrue (is_reached_within v bytes (inode_number bytes) n) ↔ IsReached (tree_in v bytes) n
