-- Copying the stored data of a tree: beyond their nodes the data of two trees are the same.
use Rattle.std.proofs.Common.{◌≡◌, ℕ, None, true, is_some, ◌+◌, ◌<◌, ◌≤◌, List, [], ◌∷◌, ◌++◌, length, take, drop, refl, sym, ap, subst, ◌∙◌, inl, inr, arith}
use Rattle.std.specs.Prelude.{slice_index}
use Rattle.std.proofs.Math.ListN.{get_or-append}
use Rattle.std.proofs.lemmas.Bool.{cases_eq, cases_lt}
use Rattle.std.proofs.lemmas.Grind.{same_number_lists}
use Rattle.std.proofs.lemmas.List.{get_or-drop, get_or-take, length-append, length-drop, length-take-le, take-append-drop}
use Rattle.pv_model.specs.Machine.{Bytes, Tree, names_of, node_at, IsWellFormed}
use Rattle.pv_laws_trees.proofs.TreeChanges.{some-below, directory_is_some}
use Rattle.pv_laws_trees.proofs.ListMembers.{In, in-entry}
use Rattle.pv_laws_trees.proofs.Trees.{ordered}
use Rattle.pv_tree.specs.Present.{HasTreeCounts, IsTied}

-- a list whose front is that of another one, and whose rest is equal to that of the other one, is the other one
copied-all : (xs ys : List ℕ) (count : ℕ) → length ys ≡ length xs → ((n : ℕ) → count ≤ n → slice_index ys n ≡ slice_index xs n) → take count xs ++ drop count ys ≡ xs
copied-all xs ys count long same =
    let rest : drop count ys ≡ drop count xs =
    same_number_lists (drop count ys) (drop count xs) (omega (arith, length-drop count ys, length-drop count xs, long))
    (λ k below. get_or-drop count ys k 0 ∙ same (count + k) (omega arith) ∙ sym (get_or-drop count xs k 0)) in
    ap (λ (zs : List ℕ). take count xs ++ zs) rest ∙ take-append-drop count xs

-- its front has the numbers of the other one
copied-front : (xs ys : List ℕ) (count n : ℕ) → n < count → count ≤ length xs → slice_index (take count xs ++ ys) n ≡ slice_index xs n
copied-front xs ys count n below within =
    let inside : n < length (take count xs) = omega (arith, length-take-le count xs within) in
    get_or-append (take count xs) ys 0 n inside ∙ get_or-take count xs n 0 below

-- each node is below a number
abbrev pub AreBelow : Tree → ℕ → Type 0
AreBelow t count = (n : ℕ) → is_some (node_at t n) ≡ true → n < count

-- no node exceeds a bound, so each is below a number that is not too small
pub are-below : (t : Tree) (bound count : ℕ) → ((k : ℕ) → bound < k → node_at t k ≡ None) → ((n : ℕ) → n ≤ bound → n < length t.nodes → n < count) → AreBelow t count
are-below t bound count none enough n used = elim (cases_lt bound n) [
  | inl past ↦ let free = ap is_some (none n past) in cc
  | inr within ↦ enough n within (some-below t n used)
]

-- a number beyond the nodes has no names
unnamed-beyond : (t : Tree) (count : ℕ) → IsWellFormed t → AreBelow t count → (n : ℕ) → count ≤ n → length (names_of t n) ≡ 0
unnamed-beyond t count w below n beyond = by (names_of t n) refl
  where
    by : (xs : List (ℕ × Bytes)) → names_of t n ≡ xs → length (names_of t n) ≡ 0
    by [] is = ap (λ (ys : List (ℕ × Bytes)). length ys) is
    by (x ∷ xs) is =
        let named = in-entry t (ordered t w.each_node) n x (subst (In (ℕ × Bytes) x) (sym is) (inl refl)) in
        let less = below n (w.entries_are_nodes x.0 x.1 n named) in
        absurd (omega arith)

-- and no references
unheld : (t : Tree) (count : ℕ) (parents names holds : List ℕ) → HasTreeCounts t parents names holds → AreBelow t count → (n : ℕ) → count ≤ n → slice_index holds n ≡ 0
unheld t count parents names holds c below n beyond = elim (cases_eq (slice_index holds n) 0) [
  | inl none ↦ none
  | inr some ↦ let less = below n (c.held_are_nodes n (omega arith)) in absurd (omega arith)
]

-- the stored data of two trees whose nodes are below a number
module _ (s t : Tree) (count : ℕ) (s_parents s_names s_holds parents names holds : List ℕ) (few : count ≤ 4097) (sc : HasTreeCounts s s_parents s_names s_holds) (tied : IsTied t parents names holds) (s_below : AreBelow s count) (t_below : AreBelow t count) where
  copied-names : take count names ++ drop count s_names ≡ names
  copied-names =
      copied-all names s_names count (sc.places_of_names ∙ sym tied.counted.places_of_names)
      (λ n beyond. sc.names_counted n ∙ unnamed-beyond s count sc.well_formed s_below n beyond ∙ sym (tied.counted.names_counted n ∙ unnamed-beyond t count tied.counted.well_formed t_below n beyond))

  pub copied-holds : take count holds ++ drop count s_holds ≡ holds
  copied-holds =
      copied-all holds s_holds count (sc.places_of_holds ∙ sym tied.counted.places_of_holds)
      (λ n beyond. unheld s count s_parents s_names s_holds sc s_below n beyond ∙ sym (unheld t count parents names holds tied.counted t_below n beyond))

  pub copied-tied : IsTied t (take count parents ++ drop count s_parents) (take count names ++ drop count s_names) (take count holds ++ drop count s_holds)
  copied-tied =
      let c = tied.counted in
      rw (copied-names, copied-holds) (record {
        counted = record {
          well_formed = c.well_formed;
          few = c.few;
          fits = c.fits;
          short = c.short;
          bytes = c.bytes;
          held_are_nodes = c.held_are_nodes;
          places_of_parents = omega (
            arith,
            length-append (take count parents) (drop count s_parents),
            length-take-le count parents (omega (arith, few, c.places_of_parents)),
            length-drop count s_parents,
            sc.places_of_parents,
            few,
          );
          places_of_names = c.places_of_names;
          places_of_holds = c.places_of_holds;
          parents_stored = λ n is. copied-front parents (drop count s_parents) count n (t_below n (directory_is_some (node_at t n) is)) (omega (arith, few, c.places_of_parents)) ∙ c.parents_stored n is;
          names_counted = c.names_counted;
        };
        is_collected = tied.is_collected;
      })
