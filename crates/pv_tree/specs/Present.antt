-- The invariant of a tree and of its stored data.
use Rattle.std.specs.Prelude.{◌≡◌, ℕ, suc, ◌+◌, ◌<◌, ◌≤◌, IsTrue, IsFalse, List, length, slice_index, Option, None, Some, is_some}
use Rattle.std.specs.Cmp.Lexicographic.{slice_cmp}
use Rattle.std.specs.FinMap.Entries.{is_sorted}
use Rattle.std.specs.Ordering.{nat_cmp}
use Rattle.pv_model.specs.declared.limits.TheConstants.{INODES}
use Rattle.pv_model.specs.Machine.{inode_blocks, greatest_blocks, is_too_long, fits, Tree, node_at, entries_at, is_directory_at, names_of, parent, IsWellFormed}
use Rattle.pv_laws_trees.specs.Preserved.{EachIsNamed}
use Rattle.pv_laws_trees.specs.Encoded.{AllBytes}
use Rattle.pv_tree.specs.Holding.{HeldTree, holds_at, collected}

-- the invariant of every tree with reference counts
pub record IsPresent (h : HeldTree) : Type 0 where
  pub well_formed : IsWellFormed h.tree
  pub few : h.tree.inodes ≤ INODES
  pub allowed : inode_blocks h.tree.version h.tree.inodes + 1 + h.tree.blocks ≤ greatest_blocks h.tree.version
  pub fits : IsTrue (fits h.tree)
  pub short : IsFalse (is_too_long h.tree)
  pub bytes : AllBytes h.tree
  pub counted : length h.holds ≡ suc INODES
  pub held_are_nodes : (n : ℕ) → 0 < holds_at h n → IsTrue (is_some (node_at h.tree n))
  pub is_collected : collected h.tree h.holds ≡ h.tree

-- the invariant of every tree without references
pub record IsAtRest (t : Tree) : Type 0 where
  pub well_formed : IsWellFormed t
  pub few : t.inodes ≤ INODES
  pub allowed : inode_blocks t.version t.inodes + 1 + t.blocks ≤ greatest_blocks t.version
  pub fits : IsTrue (fits t)
  pub short : IsFalse (is_too_long t)
  pub bytes : AllBytes t
  pub named : EachIsNamed t

-- the properties of a tree that determine whether it has room for one more entry
pub record IsShaped (t : Tree) : Type 0 where
  pub numbers : length t.nodes ≡ suc t.inodes
  pub no_zero : node_at t 0 ≡ None
  pub ordered : (d : ℕ) → IsTrue (is_sorted (slice_cmp nat_cmp) (entries_at t d))
  pub short : IsFalse (is_too_long t)

-- the stored number of a parent; a removed directory has none
abbrev pub stored : Option ℕ → ℕ
stored None = 0
stored (Some d) = d

-- the stored data of a tree that may have unreferenced nodes: the parent of each directory, and the number of names of
-- each node
pub record HasTreeCounts (t : Tree) (parents names holds : List ℕ) : Type 0 where
  pub well_formed : IsWellFormed t
  pub few : t.inodes ≤ INODES
  pub fits : IsTrue (fits t)
  pub short : IsFalse (is_too_long t)
  pub bytes : AllBytes t
  pub held_are_nodes : (n : ℕ) → 0 < slice_index holds n → IsTrue (is_some (node_at t n))
  pub places_of_parents : length parents ≡ suc INODES
  pub places_of_names : length names ≡ suc INODES
  pub places_of_holds : length holds ≡ suc INODES
  pub parents_stored : (n : ℕ) → IsTrue (is_directory_at t n) → slice_index parents n ≡ stored (parent t n)
  pub names_counted : (n : ℕ) → slice_index names n ≡ length (names_of t n)

-- the same for a tree without unreferenced nodes
pub record IsTied (t : Tree) (parents names holds : List ℕ) : Type 0 where
  pub counted : HasTreeCounts t parents names holds
  pub is_collected : collected t holds ≡ t
