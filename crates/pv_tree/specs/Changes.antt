-- Changes of a tree by calls.
use Rattle.std.specs.Prelude.{◌≡◌, ◌≢◌, ℕ, [], ◌∷◌, ◌||◌, ◌==◌, if◌then◌else◌, nat_lt, IsTrue, Option, None, Some, IsSome}
use Rattle.pv_model.specs.declared.version.Version.{Version}
use Rattle.pv_model.specs.Machine.{Bytes, with_content, bytes_of, overwrite, resize, empty_tree, Tree, root, node_at, find_entry, is_directory_at, is_name, with_entry, without_entry}
use Rattle.pv_dirs.specs.Trees.{without_node}
pub use Rattle.pv_laws_trees.specs.NewNodes.{new_node, kind_of_new}

-- a tree with only a root
abbrev pub root_alone : Version → ℕ → ℕ → Tree
root_alone v blocks inodes = record (empty_tree blocks inodes) { version = v }

abbrev pub moved_node : Tree → ℕ → Bytes → ℕ → Bytes → Option ℕ → Tree
moved_node t d name e other None = t
moved_node t d name e other (Some n) = with_entry (without_entry t d name) e other n

-- the tree with the entry of one name moved to another
abbrev pub moved : Tree → ℕ → Bytes → ℕ → Bytes → Tree
moved t d name e other = moved_node t d name e other (find_entry t d name)

-- a directory can get an entry of this name: the name is valid, and the directory has no such entry
pub record IsNewName (t : Tree) (d : ℕ) (bytes : Bytes) : Type 0 where
  pub directory : IsTrue (is_directory_at t d)
  pub name : IsTrue (is_name t.version bytes)
  pub absent : find_entry t d bytes ≡ None

-- an entry of directory d can be moved to another name, in e: this name is valid, and not a name of the same node
pub record IsOtherName (t : Tree) (d : ℕ) (old : Bytes) (e : ℕ) (new : Bytes) : Type 0 where
  pub from : IsTrue (is_directory_at t d)
  pub present : IsSome (find_entry t d old)
  pub name : IsTrue (is_name t.version new)
  pub apart : find_entry t e new ≢ find_entry t d old

-- the node of an entry of directory d that is moved to another name, in e, and the previous node of this name
pub record IsMoveOfEntry (t : Tree) (d : ℕ) (old : Bytes) (e : ℕ) (new : Bytes) (n : ℕ) (replaced : Option ℕ) : Type 0 where
  pub node : find_entry t d old ≡ Some n
  pub gone : replaced ≡ find_entry t e new

-- the tree after a write to a file; a write of zero bytes changes nothing
abbrev pub overwritten : Tree → ℕ → ℕ → Bytes → Tree
overwritten t n at [] = t
overwritten t n at (b ∷ bytes) = with_content t n (overwrite (bytes_of (node_at t n)) at (b ∷ bytes))

-- the tree after a truncation of a file, or an extension with zeros
abbrev pub resized_tree : Tree → ℕ → ℕ → Tree
resized_tree t n size = with_content t n (resize (bytes_of (node_at t n)) size)

-- the tree without node n if it has neither a name nor a reference and is not the root
abbrev pub without_if_unreferenced : Tree → ℕ → ℕ → ℕ → Tree
without_if_unreferenced t n names holds = if (root == n) || (nat_lt 0 names || nat_lt 0 holds) then t else without_node t n
