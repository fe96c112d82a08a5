-- The tree with only the root.
use Rattle.std.proofs.Common.{◌≡◌, ℕ, zero, suc, ◌-◌, ◌≤◌, true, false, [], length, replicate, None, Some, refl, ap, arith}
use Rattle.std.specs.FinMap.Entries.{find}
use Rattle.std.proofs.lemmas.Bool.{le-leb}
use Rattle.pv_model.specs.declared.version.Version.TheVariants.{V1}
use Rattle.pv_model.specs.Machine.{Bytes, empty_tree, Numbered, at_number, numbered_from, present, need, is_too_long, fits, Node, directory_node, Tree, root, node_at, entries_of, entries_at, find_entry}
use Rattle.pv_laws_trees.specs.Tree.{IsSoundTree}
use Rattle.pv_laws_trees.proofs.DirectoryEntries.{by_name}

-- a map without values
abbrev pub empties : ℕ → Numbered Node
empties k = replicate k None

pub free-at : (k n : ℕ) → at_number (empties k) n ≡ None
free-at zero n = refl
free-at (suc k) zero = refl
free-at (suc k) (suc n) = free-at k n

pub none-present : (k : ℕ) → present (empties k) ≡ []
none-present zero = refl
none-present (suc k) = none-present k

pub none-numbered : (i k : ℕ) → numbered_from i (empties k) ≡ []
none-numbered i zero = refl
none-numbered i (suc k) = none-numbered (suc i) k

pub length-free : (k : ℕ) → length (empties k) ≡ k
length-free zero = refl
length-free (suc k) = ap suc (length-free k)

module _ (blocks inodes : ℕ) (some : 1 ≤ inodes) where
  abbrev t : Tree
  t = empty_tree blocks inodes

  pub only-root : (n : ℕ) (node : Node) → node_at t n ≡ Some node → (n ≡ root) × (node ≡ directory_node [])
  only-root zero node is = cc
  only-root (suc zero) node is = (refl, cc is)
  only-root (suc (suc n)) node is = let none = free-at (inodes - 1) n in cc

  pub no-entries : (d : ℕ) → entries_at t d ≡ []
  no-entries zero = refl
  no-entries (suc zero) = refl
  no-entries (suc (suc d)) = ap entries_of (free-at (inodes - 1) d)

  nothing-found : {P : Type 0} (d : ℕ) (name : Bytes) (n : ℕ) → find_entry t d name ≡ Some n → P
  nothing-found d name n found = let none : find_entry t d name ≡ None = ap (find by_name name) (no-entries d) in cc

  numbers : length t.nodes ≡ suc inodes
  numbers = omega (arith, length-free (inodes - 1))

  pub sound-empty : IsSoundTree t
  sound-empty = record {
    numbers = numbers;
    no_zero = λ n node is zero_n. let top = (only-root n node is).0 in absurd (omega arith);
    each_node = λ n node is. ap (Rattle.pv_model.specs.Tree.is_node V1) (only-root n node is).1;
    root_is_directory = refl;
    root_is_unnamed = λ d name n found. nothing-found d name n found;
    entries_are_nodes = λ d name n found. nothing-found d name n found;
    directories_once = λ n is d name e other a b. nothing-found d name n a;
    named_are_reached = λ d name n found. nothing-found d name n found;
    removed_are_empty = λ d is other none. no-entries d;
  }

  pub short-empty : is_too_long t ≡ false
  unfolding is_too_long
  short-empty = rw (none-present (inodes - 1)) refl

  pub fits-empty : fits t ≡ true
  unfolding fits need
  fits-empty = rw (none-present (inodes - 1), le-leb 1 inodes some, le-leb 0 blocks (omega arith)) refl
