-- The tree with only a root.
use Rattle.std.proofs.Common.{◌≡◌, ℕ, zero, suc, ◌-◌, ◌≤◌, true, false, [], ◌∷◌, length, replicate, None, Some, is_some, refl, ap, sym, ◌∙◌, arith}
use Rattle.std.specs.Prelude.{slice_index, slice_set}
use Rattle.std.specs.FinMap.Entries.{find}
use Rattle.std.proofs.lemmas.Bool.{le-leb}
use Rattle.pv_model.specs.declared.version.Version.{Version}
use Rattle.pv_model.specs.declared.version.Version.TheVariants.{V1, V2}
use Rattle.pv_model.specs.Machine.{Bytes, Numbered, with_number, need, is_too_long, fits, Node, directory_node, Tree, root, node_at, find_entry, names_of, parent, with_node, new_number, is_node}
use Rattle.pv_laws_trees.specs.Encoded.{has_bytes}
use Rattle.pv_laws_trees.proofs.EmptyTrees.{free-at, only-root, no-entries, none-present, none-numbered, length-free}
use Rattle.pv_laws_trees.specs.Tree.{IsSoundTree}
use Rattle.pv_laws_trees.proofs.DirectoryEntries.{by_name}
use Rattle.pv_laws_trees.proofs.Trees.{well_formed, parent-root}
use Rattle.pv_laws_trees.proofs.TreeChanges.{directory_is_some}
use Rattle.pv_tree.specs.Changes.{root_alone}
use Rattle.pv_tree.specs.Present.{stored, IsTied}
use Rattle.pv_tree.proofs.CollectedNodes.{collected-all}

pub zeros-at : (k n : ℕ) → slice_index (replicate k 0) n ≡ 0
zeros-at zero n = refl
zeros-at (suc k) zero = refl
zeros-at (suc k) (suc n) = zeros-at k n

short-root : (v : Version) (blocks inodes : ℕ) → is_too_long (root_alone v blocks inodes) ≡ false
unfolding is_too_long
short-root V1 blocks inodes = rw (none-present (inodes - 1)) refl
short-root V2 blocks inodes = rw (none-present (inodes - 1)) refl

fits-root : (v : Version) (blocks inodes : ℕ) → 1 ≤ inodes → fits (root_alone v blocks inodes) ≡ true
unfolding fits need
fits-root V1 blocks inodes some = rw (none-present (inodes - 1), le-leb 1 inodes some, le-leb 0 blocks (omega arith)) refl
fits-root V2 blocks inodes some = rw (none-present (inodes - 1), le-leb 1 inodes some, le-leb 0 blocks (omega arith)) refl

module _ (v : Version) (blocks inodes : ℕ) (some : 1 ≤ inodes) where
  abbrev t : Tree
  t = root_alone v blocks inodes

  nothing-found : {P : Type 0} (d : ℕ) (name : Bytes) (n : ℕ) → find_entry t d name ≡ Some n → P
  nothing-found d name n found = let none : find_entry t d name ≡ None = ap (find by_name name) (no-entries blocks inodes some d) in cc

  sound-root : IsSoundTree t
  sound-root = record {
    numbers = omega (arith, length-free (inodes - 1));
    no_zero = λ n node is zero_n. let top = (only-root blocks inodes some n node is).0 in absurd (omega arith);
    each_node = λ n node is. ap (is_node v) (only-root blocks inodes some n node is).1;
    root_is_directory = refl;
    root_is_unnamed = λ d name n found. nothing-found d name n found;
    entries_are_nodes = λ d name n found. nothing-found d name n found;
    directories_once = λ n is d name e other a b. nothing-found d name n a;
    named_are_reached = λ d name n found. nothing-found d name n found;
    removed_are_empty = λ d is other none. no-entries blocks inodes some d;
  }

  no-names : (n : ℕ) → names_of t n ≡ []
  no-names n = rw (none-numbered 2 (inodes - 1)) refl

  top-only : (n : ℕ) → is_some (node_at t n) ≡ true → n ≡ root
  top-only zero is = cc
  top-only (suc zero) is = refl
  top-only (suc (suc n)) is = let none = ap is_some (free-at (inodes - 1) n) in cc

  pub empty-tied : inodes ≤ 4096 → IsTied t (slice_set (replicate 4097 0) root root) (replicate 4097 0) (replicate 4097 0)
  empty-tied few = record {
    counted = record {
      well_formed = well_formed t sound-root;
      few = few;
      fits = fits-root v blocks inodes some;
      short = short-root v blocks inodes;
      bytes = λ n node is. ap has_bytes (only-root blocks inodes some n node is).1;
      held_are_nodes = λ n held. let none = zeros-at 4097 n in absurd (omega arith);
      places_of_parents = refl;
      places_of_names = refl;
      places_of_holds = refl;
      parents_stored = λ n is.
          let top : n ≡ root = top-only n (directory_is_some (node_at t n) is) in
          ap (slice_index (slice_set (replicate 4097 0) root root)) top ∙ ap stored (sym (parent-root t)) ∙ ap (λ k. stored (parent t k)) (sym top);
      names_counted = λ n. zeros-at 4097 n ∙ ap length (sym (no-names n));
    };
    is_collected = collected-all t (replicate 4097 0) (λ n is. rw (top-only n is) refl);
  }

-- ---- its construction

pub first-number : (t : Tree) (inodes : ℕ) → t.nodes ≡ replicate (suc inodes) None → 1 ≤ inodes → new_number t ≡ 1
first-number t zero nodes some = absurd (omega arith)
first-number t (suc k) nodes some = ap (λ (xs : Numbered Node). suc (Rattle.pv_model.specs.Numbered.least_free (Rattle.std.proofs.Common.drop 1 xs))) nodes

pub first-below : (t : Tree) (inodes : ℕ) → t.nodes ≡ replicate (suc inodes) None → length t.nodes ≡ suc inodes
first-below t inodes nodes = ap length nodes ∙ length-free (suc inodes)

with_root : (inodes : ℕ) → 1 ≤ inodes → with_number (replicate (suc inodes) None) 1 (directory_node []) ≡ None ∷ Some (directory_node []) ∷ replicate (inodes - 1) None
with_root zero some = absurd (omega arith)
with_root (suc k) some = let same : k ≡ suc k - 1 = omega arith in ap (λ n. None ∷ Some (directory_node []) ∷ replicate n None) same

same_tree : (a b : Tree) → a.nodes ≡ b.nodes → a.blocks ≡ b.blocks → a.inodes ≡ b.inodes → a.version ≡ b.version → a ≡ b
same_tree a b nodes blocks inodes version = λ i. record { nodes = nodes i; blocks = blocks i; inodes = inodes i; version = version i }

pub rooted-is : (v : Version) (t : Tree) (n blocks inodes : ℕ) → t.nodes ≡ replicate (suc inodes) None → t.blocks ≡ blocks → t.inodes ≡ inodes → t.version ≡ v → 1 ≤ inodes → n ≡ new_number t
    → with_node t n (directory_node []) ≡ root_alone v blocks inodes
rooted-is v t n blocks inodes nodes same_blocks same_inodes version some least =
    ap (λ k. with_node t k (directory_node [])) (least ∙ first-number t inodes nodes some)
    ∙ same_tree (with_node t 1 (directory_node [])) (root_alone v blocks inodes)
    (ap (λ (xs : Numbered Node). with_number xs 1 (directory_node [])) nodes ∙ with_root inodes some) same_blocks same_inodes version
