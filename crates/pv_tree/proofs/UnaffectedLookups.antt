-- Lookups of names that a change does not affect.
use Rattle.std.proofs.Common.{◌≡◌, ℕ, ◌<◌, ◌≤◌, true, [], ◌∷◌, List, length, None, is_some, Result, Ok, Err, refl, ap, ◌∙◌, arith}
use Rattle.std.specs.Prelude.{OnOk, OnErr, IsSome}
use Rattle.pv_dirs.specs.OfInodes.declared.space.Space.{Space}
use Rattle.pv_model.specs.declared.kind.NewNode.{NewNode}
use Rattle.pv_model.specs.Machine.{Bytes, bytes_of, overwrite, resize, Tree, node_at, is_directory_at, find_entry, with_entry, without_entry, new_number, with_new_node, IsWellFormed}
use Rattle.pv_laws_trees.specs.Found.{AreEqualLookups, AreEqualExceptAt, AreEqualExceptAtTwo}
use Rattle.pv_laws_trees.proofs.LookupsAfterChanges.{alike-then, alike-without, alike-new, alike-moved, alike-preserved, alike-content}
use Rattle.pv_tree.specs.Changes.{new_node, overwritten, resized_tree}
use Rattle.pv_tree.specs.Holding.{referenced_numbers, collected}
use Rattle.pv_laws_trees.proofs.NewNodes.{new-entries, there-new, new-same}

-- ---- equal trees have the same entries

pub alike-along : (t u v w : Tree) → t ≡ u → w ≡ v → AreEqualLookups (find_entry t) (find_entry v) → AreEqualLookups (find_entry u) (find_entry w)
alike-along t u v w before after alike d q = ap (λ (x : Tree). find_entry x d q) after ∙ alike d q ∙ ap (λ (x : Tree). find_entry x d q) before

pub but-along : (d : ℕ) (name : Bytes) (t u v w : Tree) → t ≡ u → w ≡ v → AreEqualExceptAt d name (find_entry t) (find_entry v) → AreEqualExceptAt d name (find_entry u) (find_entry w)
but-along d name t u v w before after alike e q other = ap (λ (x : Tree). find_entry x e q) after ∙ alike e q other ∙ ap (λ (x : Tree). find_entry x e q) before

pub two-along : (d : ℕ) (name : Bytes) (e : ℕ) (new : Bytes) (t u v w : Tree) → t ≡ u → w ≡ v → AreEqualExceptAtTwo d name e new (find_entry t) (find_entry v) → AreEqualExceptAtTwo d name e new (find_entry u) (find_entry w)
two-along d name e new t u v w before after alike = (
  alike.0,
  λ x q other. alike.1 x q other ∙ ap (λ (y : Tree). find_entry y x q) before,
  λ x q other. ap (λ (y : Tree). find_entry y x q) after ∙ alike.2 x q other,
)

-- no change
pub alike-refused : (d : ℕ) (name : Bytes) (e : ℕ) (new : Bytes) (t u : Tree) → t ≡ u → AreEqualExceptAtTwo d name e new (find_entry u) (find_entry t)
alike-refused d name e new t u same = (find_entry u, λ x q other. refl, λ x q other. ap (λ (y : Tree). find_entry y x q) same)

-- ---- names

-- a new node
pub alike-made : (t : Tree) (d : ℕ) (name : Bytes) (k : NewNode) → is_directory_at t d ≡ true → find_entry t d name ≡ None → new_number t < length t.nodes
    → AreEqualExceptAt d name (find_entry t) (find_entry (with_new_node t d name (new_node k)))
alike-made t d name k is free within = alike-new t d name (new_node k) is free (new-entries k) (omega arith)

-- a removed entry, then the collection
pub alike-unlinked : (t : Tree) (d : ℕ) (name : Bytes) (holds : List ℕ) → is_directory_at t d ≡ true → IsWellFormed (without_entry t d name)
    → AreEqualExceptAt d name (find_entry t) (find_entry (collected (without_entry t d name) holds))
alike-unlinked t d name holds is wf =
    alike-then d name (find_entry t) (find_entry (without_entry t d name)) (find_entry (collected (without_entry t d name) holds))
    (alike-without t d name is) (alike-preserved (without_entry t d name) wf (referenced_numbers holds))

-- a node under another name, then the collection
pub alike-renamed : (t : Tree) → IsWellFormed t → (d : ℕ) (name : Bytes) (e : ℕ) (new : Bytes) (n : ℕ) (holds : List ℕ) → is_directory_at t d ≡ true → is_directory_at t e ≡ true
    → IsWellFormed (with_entry (without_entry t d name) e new n)
    → AreEqualExceptAtTwo d name e new (find_entry t) (find_entry (collected (with_entry (without_entry t d name) e new n) holds))
alike-renamed t w d name e new n holds from to wf =
    let u : Tree = with_entry (without_entry t d name) e new n in
    let both = alike-moved t w d name e new n from to in
    (both.0, both.1, alike-then e new both.0 (find_entry u) (find_entry (collected u holds)) both.2 (alike-preserved u wf (referenced_numbers holds)))

-- ---- contents of files

pub alike-answered : (t u v : Tree) (a : Result (Unit {0}) Space) → OnOk a (u ≡ v) → OnErr a (u ≡ t) → AreEqualLookups (find_entry t) (find_entry v) → AreEqualLookups (find_entry t) (find_entry u)
alike-answered t u v (Ok done) ok err alike = alike-along t t v u refl ok alike
alike-answered t u v (Err why) ok err alike = alike-along t t t u refl err (λ d q. refl)

pub alike-overwritten : (t : Tree) (n at : ℕ) (bytes : Bytes) → AreEqualLookups (find_entry t) (find_entry (overwritten t n at bytes))
alike-overwritten t n at [] d q = refl
alike-overwritten t n at (b ∷ bytes) d q = alike-content t n (overwrite (bytes_of (node_at t n)) at (b ∷ bytes)) d q

pub alike-resized_tree : (t : Tree) (n size : ℕ) → AreEqualLookups (find_entry t) (find_entry (resized_tree t n size))
alike-resized_tree t n size = alike-content t n (resize (bytes_of (node_at t n)) size)

-- a new node is in the tree
pub there-made : (t : Tree) (d : ℕ) (name : Bytes) (k : NewNode) → is_directory_at t d ≡ true → find_entry t d name ≡ None → new_number t < length t.nodes
    → IsSome (node_at (with_new_node t d name (new_node k)) (new_number t))
there-made t d name k is free within =
    let least : new_number t ≤ length t.nodes = omega (arith, within) in
    there-new t d name (new_node k) is free (new-entries k) least (new_number t) (ap is_some (new-same t d name (new_node k) is free (new-entries k) least))
