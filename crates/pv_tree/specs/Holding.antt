-- A tree with reference counts.
use Rattle.std.specs.Prelude.{◌≡◌, ℕ, ◌+◌, ◌-◌, List, slice_index, slice_set}
use Rattle.pv_model.specs.Machine.{Tree}
pub use Rattle.pv_laws_trees.specs.ReferenceCounts.{referenced_numbers, collected}

-- a tree, and the reference count of each number
pub record HeldTree : Type 0 where
  pub tree : Tree
  pub holds : List ℕ

-- the reference count of a node
abbrev pub holds_at : HeldTree → ℕ → ℕ
holds_at h n = slice_index h.holds n

-- no node has a reference
abbrev pub IsUnheld : List ℕ → Type 0
IsUnheld holds = (n : ℕ) → slice_index holds n ≡ 0

-- another tree with the same reference counts
abbrev pub held_with_tree : HeldTree → Tree → HeldTree
held_with_tree h t = record { tree = t; holds = h.holds }

-- another tree without unreferenced nodes, with the same reference counts
abbrev pub after : HeldTree → Tree → HeldTree
after h t = record { tree = collected t h.holds; holds = h.holds }

-- the reference counts after a reference is added
abbrev pub held_more : List ℕ → ℕ → List ℕ
held_more holds n = slice_set holds n (slice_index holds n + 1)

-- the reference counts after a reference is released
abbrev pub held_less : List ℕ → ℕ → List ℕ
held_less holds n = slice_set holds n (slice_index holds n - 1)
