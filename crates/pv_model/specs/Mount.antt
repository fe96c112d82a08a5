-- Mounting: the tree that the bytes of an image hold, or the first error in the format's order.
use Rattle.std.specs.Prelude.{◌≡◌, ◌≢◌, ℕ, zero, suc, ◌+◌, ◌-◌, ◌*◌, ◌/◌, ◌%◌, ◌<◌, ◌≤◌, Bool, true, false, not, ◌&&◌, ◌||◌, if◌then◌else◌, ◌==◌, nat_lt, nat_le, IsTrue, IsFalse, List, [], ◌∷◌, ◌++◌, length, take, drop, map, filter, flat_map, find, bytes_eq, Option, None, Some, Result, Ok, Err}
use Rattle.std.specs.Cmp.Lexicographic.{slice_cmp}
use Rattle.std.specs.FinMap.Entries.{put}
use Rattle.std.specs.List.{list_any, range_with_len}
use Rattle.std.specs.Ordering.{nat_cmp}
use Rattle.pv_model.specs.declared.fault.ImageFault.{ImageFault}
use Rattle.pv_model.specs.declared.fault.ImageFault.TheVariants.{Short, Magic, Size, Inode, Block, Dir, Tree as NoTree}
use Rattle.pv_model.specs.declared.limits.TheConstants.{BLOCK, INODES, LINK_TEXT}
use Rattle.pv_model.specs.declared.version.Version.{Version}
use Rattle.pv_model.specs.declared.version.Version.TheVariants.{V1, V2}
use Rattle.pv_model.specs.Bytes.{Bytes}
use Rattle.pv_model.specs.Image.{field, magic, greatest_blocks, inode_blocks, stored_count, inode, size, used_index, used_content, content}
use Rattle.pv_model.specs.Room.{entry_length, greatest_length}
use Rattle.pv_model.specs.Tree.{Entries, Node, directory_node, file_node, link_node, Tree, root, is_name, greatest_name}

-- n slots of a directory
abbrev pub slots_of : Version → ℕ → Bytes → List Bytes
slots_of v zero bs = []
slots_of v (suc n) bs = take (entry_length v) bs ∷ slots_of v n (drop (entry_length v) bs)

-- the fields of a slot: the inode's number, the length of the name, and the name
abbrev pub slot_number : Bytes → ℕ
slot_number slot = field slot 0 2

abbrev pub slot_length : Bytes → ℕ
slot_length slot = field slot 2 1

abbrev pub slot_name : Bytes → Bytes
slot_name slot = take (slot_length slot) (drop 4 slot)

abbrev pub appears_twice : {X : Type 0} → (X → X → Bool) → List X → Bool
appears_twice same [] = false
appears_twice same (x ∷ xs) = list_any (same x) xs || appears_twice same xs

-- ---- the sizes

abbrev pub version_of : Bytes → Option Version
version_of bytes =
    if bytes_eq (take 8 bytes) (magic V1) then Some V1
    else if bytes_eq (take 8 bytes) (magic V2) then Some V2
    else None

abbrev pub block_number : Bytes → ℕ
block_number bytes = field bytes 8 2

abbrev pub inode_number : Bytes → ℕ
inode_number bytes = field bytes 10 2

-- whether an image may have these sizes
abbrev pub are_image_sizes : Version → ℕ → ℕ → Bool
are_image_sizes v blocks inodes =
    nat_le 1 inodes && nat_le inodes INODES && nat_le (inode_blocks v inodes + 1) blocks && nat_le blocks (greatest_blocks v)

-- whether the sizes are allowed and agree with the number of bytes
abbrev pub has_sizes : Version → Bytes → Bool
has_sizes v bytes = are_image_sizes v (block_number bytes) (inode_number bytes) && (length bytes == BLOCK * block_number bytes)

abbrev pub inode_numbers : Bytes → List ℕ
inode_numbers bytes = range_with_len 1 (inode_number bytes)

module _ (v : Version) (bytes : Bytes) where
  -- ---- one inode

  abbrev pub kind : ℕ → ℕ
  kind n = field (inode v bytes n) 0 1

  abbrev pub is_free : ℕ → Bool
  is_free n = kind n == 0

  -- whether the kind is invalid, or the size is one that the kind cannot have
  unfoldable pub has_bad_inode : ℕ → Bool
  has_bad_inode n =
      not (is_free n)
      && (nat_lt 4 (kind n)
      || nat_lt (greatest_length v) (size v bytes n)
      || ((kind n == 1) && not (size v bytes n % entry_length v == 0))
      || ((kind n == 4) && not (nat_le 1 (size v bytes n) && nat_le (size v bytes n) LINK_TEXT)))

  -- ---- its blocks

  abbrev pub is_data_block : ℕ → Bool
  is_data_block k = nat_lt (inode_blocks v (inode_number bytes)) k && nat_lt k (block_number bytes)

  abbrev pub used_by : ℕ → List ℕ
  used_by n = if is_free n then [] else used_content v bytes n ++ used_index v bytes n

  -- the blocks that inodes with lesser numbers use
  abbrev pub used_before : ℕ → List ℕ
  used_before n = flat_map used_by (range_with_len 1 (n - 1))

  -- whether the inode uses a block that is not a data block, or that a lesser inode or the inode itself already uses
  unfoldable pub has_bad_block : ℕ → Bool
  has_bad_block n =
      list_any (λ k. not (is_data_block k)) (used_by n)
      || appears_twice ◌==◌ (used_by n)
      || list_any (λ k. list_any (λ other. other == k) (used_before n)) (used_by n)

  -- ---- its content

  abbrev pub is_directory_inode : ℕ → Bool
  is_directory_inode n = kind n == 1

  abbrev pub slots_at : ℕ → List Bytes
  slots_at n = if is_directory_inode n then slots_of v (size v bytes n / entry_length v) (content v bytes n) else []

  -- whether a slot's number is not that of an inode in use, or its name is invalid
  abbrev pub is_bad_slot : Bytes → Bool
  is_bad_slot slot =
      not (nat_le 1 (slot_number slot) && nat_le (slot_number slot) (inode_number bytes))
      || is_free (slot_number slot)
      || nat_lt (greatest_name v) (slot_length slot)
      || not (is_name v (slot_name slot))

  -- whether a directory has an invalid slot or a duplicate name, or a link's text contains a zero byte
  unfoldable pub has_bad_content : ℕ → Bool
  has_bad_content n =
      list_any is_bad_slot (slots_at n)
      || appears_twice bytes_eq (map slot_name (slots_at n))
      || ((kind n == 4) && list_any (λ b. b == 0) (content v bytes n))

  -- ---- its place in the tree

  -- whether a directory has a slot for an inode
  abbrev pub has_slot_for : ℕ → ℕ → Bool
  has_slot_for n d = list_any (λ slot. slot_number slot == n) (slots_at d)

  -- the number of slots for an inode
  abbrev pub name_count : ℕ → ℕ
  name_count n = length (filter (λ slot. slot_number slot == n) (flat_map slots_at (inode_numbers bytes)))

  -- whether slots lead from the root to an inode in at most `steps` steps
  abbrev pub is_reached_within : ℕ → ℕ → Bool
  is_reached_within zero n = n == root
  is_reached_within (suc steps) n = (n == root) || list_any (is_reached_within steps) (filter (has_slot_for n) (inode_numbers bytes))

  -- whether an inode of its kind may have this number of names
  abbrev pub may_be_named : ℕ → ℕ → Bool
  may_be_named n count =
      if n == root then is_directory_inode n && (count == 0)
      else if is_directory_inode n then count == 1
      else nat_le 1 count

  -- whether an inode has a number of names that is not allowed or differs from the stored count, or is not reached from
  -- the root
  unfoldable pub has_bad_place : ℕ → Bool
  has_bad_place n =
      ((n == root) || not (is_free n))
      && (not (may_be_named n (name_count n))
      || not (stored_count v (inode v bytes n) == name_count n)
      || not (is_reached_within (inode_number bytes) n))

  -- ---- the first error, and the tree

  -- the least inode for which a test succeeds
  abbrev pub least_with : (ℕ → Bool) → Option ℕ
  least_with test = find test (inode_numbers bytes)

  abbrev pub or_error : (ℕ → ImageFault) → Option ℕ → Option ImageFault → Option ImageFault
  or_error fault (Some n) others = Some (fault n)
  or_error fault None others = others

  -- the first error of the inodes
  unfoldable pub inode_error : Option ImageFault
  inode_error =
      or_error Inode (least_with has_bad_inode)
      (or_error Block (least_with has_bad_block)
      (or_error Dir (least_with has_bad_content)
      (or_error NoTree (least_with has_bad_place) None)))

  -- the entries in slots, sorted by name
  abbrev pub entries_in : List Bytes → Entries
  entries_in [] = []
  entries_in (slot ∷ slots) = put (slice_cmp nat_cmp) (slot_name slot) (slot_number slot) (entries_in slots)

  -- the node that an inode holds
  abbrev pub node_in : ℕ → Option Node
  node_in n =
      if kind n == 1 then Some (directory_node (entries_in (slots_at n)))
      else if kind n == 2 then Some (file_node false (content v bytes n))
      else if kind n == 3 then Some (file_node true (content v bytes n))
      else if kind n == 4 then Some (link_node (content v bytes n))
      else None

  abbrev pub tree_in : Tree
  tree_in = record {
    nodes = None ∷ map node_in (inode_numbers bytes);
    blocks = block_number bytes - 1 - inode_blocks v (inode_number bytes);
    inodes = inode_number bytes;
    version = v;
  }

  abbrev pub or_tree : Option ImageFault → Result Tree ImageFault
  or_tree (Some fault) = Err fault
  or_tree None = Ok tree_in

abbrev pub mounted_as : Option Version → Bytes → Result Tree ImageFault
mounted_as None bytes = Err Magic
mounted_as (Some v) bytes = if has_sizes v bytes then or_tree v bytes (inode_error v bytes) else Err Size

-- the tree that the bytes of an image hold, or the first error
unfoldable pub mounted : Bytes → Result Tree ImageFault
mounted bytes = if nat_lt (length bytes) BLOCK then Err Short else mounted_as (version_of bytes) bytes

-- ---- the same as a relation

-- a test fails for every inode
abbrev pub PassesNone : Bytes → (ℕ → Bool) → Type 0
PassesNone bytes test = (n : ℕ) → 1 ≤ n → n ≤ inode_number bytes → IsFalse (test n)

-- a test succeeds for this inode and for no lesser one
pub record PassesLeast (bytes : Bytes) (test : ℕ → Bool) (n : ℕ) : Type 0 where
  pub from_one : 1 ≤ n
  pub in_table : n ≤ inode_number bytes
  pub passes : IsTrue (test n)
  pub least : (m : ℕ) → 1 ≤ m → m < n → IsFalse (test m)

-- the bytes start with the magic of this version and have the sizes that they state
pub record HasSizes (bytes : Bytes) (v : Version) : Type 0 where
  pub long_enough : BLOCK ≤ length bytes
  pub has_magic : take 8 bytes ≡ magic v
  pub sizes : IsTrue (has_sizes v bytes)

-- the first error of the bytes
pub data IsErrorOf (bytes : Bytes) : ImageFault → Type 0 where
  short : length bytes < BLOCK → IsErrorOf bytes Short
  other_magic : BLOCK ≤ length bytes → ((v : Version) → take 8 bytes ≢ magic v) → IsErrorOf bytes Magic
  other_sizes : (v : Version) → BLOCK ≤ length bytes → take 8 bytes ≡ magic v → IsFalse (has_sizes v bytes) → IsErrorOf bytes Size
  bad_inode : (v : Version) (n : ℕ) → HasSizes bytes v → PassesLeast bytes (has_bad_inode v bytes) n → IsErrorOf bytes (Inode n)
  bad_block : (v : Version) (n : ℕ) → HasSizes bytes v → PassesNone bytes (has_bad_inode v bytes) → PassesLeast bytes (has_bad_block v bytes) n
      → IsErrorOf bytes (Block n)
  bad_content : (v : Version) (n : ℕ) → HasSizes bytes v → PassesNone bytes (has_bad_inode v bytes) → PassesNone bytes (has_bad_block v bytes)
      → PassesLeast bytes (has_bad_content v bytes) n → IsErrorOf bytes (Dir n)
  bad_place : (v : Version) (n : ℕ) → HasSizes bytes v → PassesNone bytes (has_bad_inode v bytes) → PassesNone bytes (has_bad_block v bytes)
      → PassesNone bytes (has_bad_content v bytes) → PassesLeast bytes (has_bad_place v bytes) n → IsErrorOf bytes (NoTree n)
