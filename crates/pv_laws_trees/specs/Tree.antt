-- Laws of directory trees.
use Rattle.std.specs.Prelude.{◌≡◌, ◌≢◌, ◌↔◌, ℕ, suc, ◌≤◌, ◌==◌, IsTrue, IsFalse, [], length, None, Some, is_some, bytes_eq}
use Rattle.std.specs.List.{list_any}
use Rattle.std.specs.Cmp.Lexicographic.{slice_cmp}
use Rattle.std.specs.Ordering.{nat_cmp, eq_by_cmp}
use Rattle.pv_model.specs.Machine.{Bytes, with_content, contains_directory, entries_there, Node, Tree, root, node_at, entries_of, entries_at, is_directory_at, find_entry, parent, ancestors, IsAtOrAbove, is_removed, with_entry, without_entry, new_number, with_new_node, is_name, is_node, IsReached, IsWellFormed}

-- the conditions on individual entries that make a tree well-formed
pub record IsSoundTree (t : Tree) : Type 0 where
  pub numbers : length t.nodes ≡ suc t.inodes
  pub no_zero : (n : ℕ) (node : Node) → node_at t n ≡ Some node → n ≢ 0
  pub each_node : (n : ℕ) (node : Node) → node_at t n ≡ Some node → IsTrue (is_node t.version node)
  pub root_is_directory : IsTrue (is_directory_at t root)
  pub root_is_unnamed : (d : ℕ) (name : Bytes) (n : ℕ) → find_entry t d name ≡ Some n → n ≢ root
  pub entries_are_nodes : (d : ℕ) (name : Bytes) (n : ℕ) → find_entry t d name ≡ Some n → IsTrue (is_some (node_at t n))
  pub directories_once : (n : ℕ) → IsTrue (is_directory_at t n) → (d : ℕ) (name : Bytes) (e : ℕ) (other : Bytes)
      → find_entry t d name ≡ Some n → find_entry t e other ≡ Some n → (d ≡ e) × (name ≡ other)
  pub named_are_reached : (d : ℕ) (name : Bytes) (n : ℕ) → find_entry t d name ≡ Some n → IsReached t n
  pub removed_are_empty : (d : ℕ) → IsTrue (is_directory_at t d) → d ≢ root
      → ((e : ℕ) (name : Bytes) → find_entry t e name ≢ Some d) → entries_at t d ≡ []

-- a tree is well-formed if and only if it satisfies the conditions on its entries
abbrev pub SoundIsWellFormed : Type 0
SoundIsWellFormed = (t : Tree) → IsWellFormed t ↔ IsSoundTree t

-- the parent of a directory is the one directory that has an entry for it
abbrev pub ParentHasEntry : Type 0
ParentHasEntry =
    (t : Tree) → IsWellFormed t → (n d : ℕ) → n ≢ root → IsTrue (is_directory_at t n)
    → (parent t n ≡ Some d) ↔ ((name : Bytes) × (find_entry t d name ≡ Some n))

-- the order of names treats two names as equal if and only if their bytes are equal
abbrev pub NamesTie : Type 0
NamesTie = (a b : Bytes) → eq_by_cmp (slice_cmp nat_cmp) a b ≡ bytes_eq a b

-- a directory that is not removed: the root, or one that an entry names
abbrev pub Appears : Tree → ℕ → Type 0
Appears t d = IsTrue (is_directory_at t d) × IsFalse (is_removed t d)

-- the root is among the ancestors of each directory that is not removed
abbrev pub ParentsLeadToRoot : Type 0
ParentsLeadToRoot = (t : Tree) → IsWellFormed t → (d : ℕ) → Appears t d → IsTrue (list_any (λ e. e == root) (ancestors t d))

-- a directory is not below itself
abbrev pub NoDirectoryAboveItself : Type 0
NoDirectoryAboveItself =
    (t : Tree) → IsWellFormed t → (d above : ℕ) → Appears t d → d ≢ root → parent t d ≡ Some above → IsFalse (contains_directory t d above)

-- climbing finds exactly the directory itself and its ancestors
abbrev pub AncestorsAreAbove : Type 0
AncestorsAreAbove = (t : Tree) → IsWellFormed t → (d e : ℕ) → IsTrue (contains_directory t e d) ↔ IsAtOrAbove t e d

-- the bytes of a file may change
abbrev pub StaysWithContent : Type 0
StaysWithContent = (t : Tree) → IsWellFormed t → (f : ℕ) (bytes : Bytes) → IsWellFormed (with_content t f bytes)

-- a new node without entries may get a new name in a directory that is not removed, if a number is free
abbrev pub StaysWithNewNode : Type 0
StaysWithNewNode =
    (t : Tree) → IsWellFormed t → (d : ℕ) (name : Bytes) (node : Node) → Appears t d → find_entry t d name ≡ None → IsTrue (is_name t.version name)
    → IsTrue (is_node t.version node) → entries_of (Some node) ≡ [] → new_number t ≤ t.inodes → IsWellFormed (with_new_node t d name node)

-- a node that is not a directory may get another name
abbrev pub StaysWithEntry : Type 0
StaysWithEntry =
    (t : Tree) → IsWellFormed t → (d : ℕ) (name : Bytes) (n : ℕ) → Appears t d → find_entry t d name ≡ None → IsTrue (is_name t.version name)
    → IsTrue (is_some (node_at t n)) → IsFalse (is_directory_at t n) → IsWellFormed (with_entry t d name n)

-- an entry whose node has no entries may be removed
abbrev pub StaysWithoutEntry : Type 0
StaysWithoutEntry =
    (t : Tree) → IsWellFormed t → (d : ℕ) (name : Bytes) (n : ℕ) → find_entry t d name ≡ Some n → entries_at t n ≡ [] → IsWellFormed (without_entry t d name)

-- a node may get a new name in a directory that is not removed and is neither the node nor below it, where the name is
-- absent or names another node without entries
abbrev pub StaysRenamed : Type 0
StaysRenamed =
    (t : Tree) → IsWellFormed t → (d : ℕ) (name : Bytes) (e : ℕ) (new : Bytes) (n : ℕ) → find_entry t d name ≡ Some n → Appears t e → IsTrue (is_name t.version new)
    → IsFalse (contains_directory t n e) → find_entry t e new ≢ Some n → entries_there t (find_entry t e new) ≡ []
    → IsWellFormed (with_entry (without_entry t d name) e new n)
