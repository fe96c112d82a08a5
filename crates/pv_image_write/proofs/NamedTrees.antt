-- The named tree, and the tree that is written.
use Rattle.std.proofs.Common.{◌≡◌, ◌≢◌, ℕ, ◌<◌, ◌||◌, ◌==◌, List, ◌∷◌, None, Some, refl, ap, sym, ◌∙◌, ⊎_elim}
use Rattle.std.proofs.lemmas.Bool.{cases_Bool, ne_eqb, or_right}
use Rattle.pv_model.specs.Machine.{among, named_tree, Node, Tree, root, node_at, named_numbers, IsWellFormed}
use Rattle.pv_laws_trees.proofs.Collection.{Covers, entries-only}
use Rattle.pv_laws_trees.proofs.NameCounts.{name_count, named-is, is_positive, positive-is, names-same}
use Rattle.pv_laws_trees.proofs.NumberedMaps.{keep-passes, keep-fails, keep-some, length-keep}
use Rattle.pv_laws_trees.proofs.Trees.{sound}
use Rattle.pv_image_write.specs.Placed.{written_at}

-- the numbers that the named tree keeps
abbrev pub preserved_numbers : Tree → List ℕ
preserved_numbers t = root ∷ named_numbers t

pub covers : (t : Tree) → Covers t (preserved_numbers t)
covers t = record { top = refl; named = λ n is. or_right (root == n) _ is }

-- the root and the named nodes are written
pub as_written-root : (t : Tree) → written_at t root ≡ node_at t root
unfolding written_at
as_written-root t = keep-passes (among (preserved_numbers t)) t.nodes root refl

pub as_written-named : (t : Tree) (n : ℕ) → 0 < name_count t n → written_at t n ≡ node_at t n
unfolding written_at
as_written-named t n some = keep-passes (among (preserved_numbers t)) t.nodes n (or_right (root == n) _ (named-is t n ∙ positive-is (name_count t n) some))

-- and nothing else
pub as_written-none : (t : Tree) (n : ℕ) → n ≢ root → name_count t n ≡ 0 → written_at t n ≡ None
unfolding written_at
as_written-none t n other none =
    keep-fails (among (preserved_numbers t)) t.nodes n
    (ap (λ b. b || among (named_numbers t) n) (ne_eqb root n (λ same. other (sym same))) ∙ named-is t n ∙ ap is_positive none)

pub as_written-free : (t : Tree) (n : ℕ) → node_at t n ≡ None → written_at t n ≡ None
unfolding written_at
as_written-free t n free =
    ⊎_elim (λ in'. keep-passes (among (preserved_numbers t)) t.nodes n in' ∙ free) (λ out. keep-fails (among (preserved_numbers t)) t.nodes n out) (cases_Bool (among (preserved_numbers t) n))

pub as_written-was : (t : Tree) (n : ℕ) (node : Node) → written_at t n ≡ Some node → node_at t n ≡ Some node
unfolding written_at
as_written-was t n node is = (keep-some (among (preserved_numbers t)) t.nodes n node is).1

-- the same names
pub names-preserved : (t : Tree) → IsWellFormed t → (n : ℕ) → name_count (named_tree t) n ≡ name_count t n
names-preserved t w n =
    names-same t (named_tree t) (length-keep (among (preserved_numbers t)) t.nodes) (entries-only t (preserved_numbers t) (sound t w) (covers t)) n
