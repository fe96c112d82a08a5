-- The ancestors of a directory.
use Rattle.std.proofs.Common.{◌≡◌, ◌≢◌, ◌↔◌, if◌then◌else◌, ℕ, zero, suc, ◌<◌, ◌≤◌, Bool, true, false, cond, ◌==◌, eqb, List, [], ◌∷◌, append-nil, flat_map, option_to_list, length, Option, None, Some, is_none, refl, ap, sym, ◌∙◌, arith, ⊎_elim}
use Rattle.std.specs.List.{list_any, IsDistinct, AllByRecursion}
use Rattle.std.proofs.lemmas.Bool.{eqb-true, eqb-false, eq-eqb, ne_eqb, or_cases, or_parts, or_left, or_right, cases_Bool, cases_eq}
use Rattle.std.proofs.lemmas.Map.Steps.{length-le_from_distinct_below}
use Rattle.pv_model.specs.Machine.{Bytes, contains_directory, Tree, root, is_directory_at, find_entry, parent, ancestors, IsAtOrAbove, is_removed, IsReached, from_root, by_entry, IsWellFormed}
use Rattle.pv_model.specs.Tree.{above_or_none, ancestors_within, itself, above as is_above}
use Rattle.pv_laws_trees.specs.Tree.{IsSoundTree, Appears}
use Rattle.pv_laws_trees.proofs.TreeChanges.{directory-below, some-below, has_entry-directory}
use Rattle.pv_laws_trees.proofs.Trees.{ordered, sound, parent-entry, parent-none_named, entry-parent}

-- a directory that is not removed is reached from the root
pub appears-reached : (t : Tree) → IsSoundTree t → (d : ℕ) → is_removed t d ≡ false → IsReached t d
appears-reached t s d appears = by (parent t d) refl appears
  where
    by : (o : Option ℕ) → parent t d ≡ o → is_none o ≡ false → IsReached t d
    by None is appears = cc
    by (Some a) is appears = ⊎_elim
        (λ top. Rattle.std.proofs.Common.subst (IsReached t) (sym top) from_root)
        (λ other. let found = parent-entry t (ordered t s.each_node) d a other is in s.named_are_reached a found.0 d found.1)
        (cases_eq d root)

-- a directory with an entry is not removed
pub entry-reached : (t : Tree) → IsSoundTree t → (d : ℕ) (name : Bytes) (n : ℕ) → find_entry t d name ≡ Some n → IsReached t d
entry-reached t s d name n found = by (parent t d) refl
  where
    by : (o : Option ℕ) → parent t d ≡ o → IsReached t d
    by None is =
        let top = parent-none_named t d is in
        let empty = s.removed_are_empty d (has_entry-directory t d name n found) top.0 top.1 in
        let none : find_entry t d name ≡ None = ap (λ es. Rattle.std.specs.FinMap.Entries.find Rattle.pv_laws_trees.proofs.DirectoryEntries.by_name name es) empty in cc
    by (Some a) is = appears-reached t s d (ap is_none is)

-- a directory is k steps below the root
pub data IsBelow (t : Tree) : ℕ → ℕ → Type 0 where
  at_root : IsBelow t root 0
  one_below : (d above k : ℕ) → d ≢ root → parent t d ≡ Some above → IsBelow t above k → IsBelow t d (suc k)

apart : (d : ℕ) (xs : List ℕ) → ((q : ℕ) → list_any (eqb q) xs ≡ true → eqb d q ≡ false) → AllByRecursion (λ q. eqb d q ≡ false) xs
apart d [] each = tt
apart d (x ∷ xs) each = (each x (or_left (eqb x x) _ (eq-eqb x x refl)), apart d xs (λ q is. each q (or_right (eqb q x) _ is)))

module _ (t : Tree) (s : IsSoundTree t) where
  pub reached-below : (d : ℕ) → IsReached t d → is_directory_at t d ≡ true → (k : ℕ) × IsBelow t d k
  reached-below _ from_root is = (0, at_root)
  reached-below _ (by_entry d name n above found) is =
      let up = reached-below d above (has_entry-directory t d name n found) in
      (suc up.0, one_below n d up.0 (s.root_is_unnamed d name n found) (entry-parent t s n d name is found) up.1)

  -- the path to the root is unique
  root_depth : (d k : ℕ) → IsBelow t d k → d ≡ root → k ≡ 0
  root_depth _ _ at_root same = refl
  root_depth _ _ (one_below d above k other up below) same = absurd (other same)

  depth : (d k j : ℕ) → IsBelow t d k → IsBelow t d j → k ≡ j
  depth _ _ j at_root b = sym (root_depth root j b refl)
  depth _ _ j (one_below d above k other up below) b = by d above k other up (λ i c. depth above k i below c) j b
    where
      by : (d above k : ℕ) → d ≢ root → parent t d ≡ Some above → ((i : ℕ) → IsBelow t above i → k ≡ i) → (j : ℕ) → IsBelow t d j → suc k ≡ j
      by _ above k other up same _ at_root = absurd (other refl)
      by _ above k other up same _ (one_below e above' i other' up' below') =
          let one : above' ≡ above = cc in ap suc (same i (Rattle.std.proofs.Common.subst (λ a. IsBelow t a i) one below'))

  -- the directory and its ancestors
  chain : (d k : ℕ) → IsBelow t d k → List ℕ
  chain _ _ at_root = root ∷ []
  chain _ _ (one_below d above k other up below) = d ∷ chain above k below

  length-chain : (d k : ℕ) (b : IsBelow t d k) → length (chain d k b) ≡ suc k
  unfolding chain
  length-chain _ _ at_root = refl
  length-chain _ _ (one_below d above k other up below) = ap suc (length-chain above k below)

  in_chain : (d k : ℕ) (b : IsBelow t d k) (q : ℕ) → list_any (eqb q) (chain d k b) ≡ true → (j : ℕ) × (j ≤ k) × IsBelow t q j
  unfolding chain
  in_chain _ _ at_root q is = ⊎_elim (λ here. (0, omega arith, Rattle.std.proofs.Common.subst (λ a. IsBelow t a 0) (sym (eqb-true q root here)) at_root)) (λ none. cc) (or_cases (eqb q root) false is)
  in_chain _ _ (one_below d above k other up below) q is =
      ⊎_elim (λ here. (suc k, omega arith, Rattle.std.proofs.Common.subst (λ a. IsBelow t a (suc k)) (sym (eqb-true q d here)) (one_below d above k other up below)))
      (λ there. let found = in_chain above k below q there in (found.0, omega (arith, found.1), found.2)) (or_cases (eqb q d) _ is)

  distinct-chain : (d k : ℕ) (b : IsBelow t d k) → IsDistinct eqb (chain d k b)
  unfolding chain IsDistinct
  distinct-chain _ _ at_root = (tt, tt)
  distinct-chain _ _ (one_below d above k other up below) = (
    apart d (chain above k below) (λ q is.
        ⊎_elim (λ same. let found = in_chain above k below q is in
        let deep = depth q (suc k) found.0 (Rattle.std.proofs.Common.subst (λ a. IsBelow t a (suc k)) (eqb-true d q same) (one_below d above k other up below)) found.2 in
        absurd (omega (arith, found.1, deep)))
        (λ none. none) (cases_Bool (eqb d q))),
    distinct-chain above k below,
  )

  is_node_below : (d k : ℕ) → IsBelow t d k → d < length t.nodes
  is_node_below _ _ at_root = directory-below t root s.root_is_directory
  is_node_below _ _ (one_below d above k other up below) =
      let found = parent-entry t (ordered t s.each_node) d above other up in some-below t d (s.entries_are_nodes above found.0 d found.1)

  -- the depth is less than the number of nodes
  pub depth-below : (d k : ℕ) → IsBelow t d k → k < length t.nodes
  depth-below d k b =
      let few = length-le_from_distinct_below (chain d k b) (length t.nodes) (distinct-chain d k b)
      (λ q is. let found = in_chain d k b q is in is_node_below q found.0 found.2) in
      omega (arith, few, length-chain d k b)

-- a directory is reached without passing n
pub data ReachedWithout (t : Tree) (n : ℕ) : ℕ → Type 0 where
  root_without : root ≢ n → ReachedWithout t n root
  entry_without : (d : ℕ) (name : Bytes) (e : ℕ) → ReachedWithout t n d → find_entry t d name ≡ Some e → e ≢ n → ReachedWithout t n e

apart_from : (a n : ℕ) → (a == n) ≡ false → a ≢ n
apart_from a n other same = let is = eq-eqb a n same in cc

module _ (t : Tree) (s : IsSoundTree t) where
  above-is : (d above : ℕ) → d ≢ root → parent t d ≡ Some above → above_or_none t d ≡ above ∷ []
  above-is d above other up = ap (λ b. cond b [] (option_to_list (parent t d))) (ne_eqb d root other) ∙ ap option_to_list up

  -- the ancestors, given enough steps
  ancestors-is : (d above steps : ℕ) → d ≢ root → parent t d ≡ Some above → ancestors_within t (suc steps) d ≡ d ∷ ancestors_within t steps above
  ancestors-is d above steps other up = ap (λ (ups : List ℕ). d ∷ flat_map (ancestors_within t steps) ups) (above-is d above other up) ∙ ap (λ (ups : List ℕ). d ∷ ups) (append-nil (ancestors_within t steps above))

  without : (n d k : ℕ) → IsBelow t d k → (steps : ℕ) → k < steps → list_any (λ e. e == n) (ancestors_within t steps d) ≡ false → ReachedWithout t n d
  without n _ _ b zero few none = absurd (omega arith)
  without n _ _ at_root (suc steps) few none = root_without (apart_from root n (or_parts (root == n) _ none).0)
  without n _ _ (one_below d above k other up below) (suc steps) few none =
      let parts = or_parts (d == n) (list_any (λ e. e == n) (ancestors_within t steps above)) (sym (ap (list_any (λ e. e == n)) (ancestors-is d above steps other up)) ∙ none) in
      let found = parent-entry t (ordered t s.each_node) d above other up in
      entry_without above found.0 d (without n above k below steps (omega arith) parts.1) found.1 (apart_from d n parts.0)

  -- a directory that does not contain another is not an ancestor of it
  pub not_contained : (n d : ℕ) → is_directory_at t d ≡ true → is_removed t d ≡ false → contains_directory t n d ≡ false → ReachedWithout t n d
  unfolding ancestors
  not_contained n d is appears none =
      let below = reached-below t s d (appears-reached t s d appears) is in without n d below.0 below.1 (length t.nodes) (depth-below t s d below.0 below.1) none

  leads : (d k : ℕ) → IsBelow t d k → (steps : ℕ) → k < steps → list_any (λ e. e == root) (ancestors_within t steps d) ≡ true
  leads _ _ b zero few = absurd (omega arith)
  leads _ _ at_root (suc steps) few = refl
  leads _ _ (one_below d above k other up below) (suc steps) few =
      ap (list_any (λ e. e == root)) (ancestors-is d above steps other up) ∙ or_right (d == root) _ (leads above k below steps (omega arith))

  -- an ancestor is not deeper
  higher : (q d k : ℕ) → IsBelow t d k → (steps : ℕ) → list_any (λ e. e == q) (ancestors_within t steps d) ≡ true → (j : ℕ) × (j ≤ k) × IsBelow t q j
  higher q _ _ b zero is = cc
  higher q _ _ at_root (suc steps) is = ⊎_elim (λ here. (0, omega arith, Rattle.std.proofs.Common.subst (λ a. IsBelow t a 0) (eqb-true root q here) at_root)) (λ none. cc) (or_cases (root == q) false is)
  higher q _ _ (one_below d above k other up below) (suc steps) is =
      ⊎_elim (λ here. (suc k, omega arith, Rattle.std.proofs.Common.subst (λ a. IsBelow t a (suc k)) (eqb-true d q here) (one_below d above k other up below)))
      (λ there. let found = higher q above k below steps there in (found.0, omega (arith, found.1), found.2))
      (or_cases (d == q) (list_any (λ e. e == q) (ancestors_within t steps above)) (sym (ap (list_any (λ e. e == q)) (ancestors-is d above steps other up)) ∙ is))

pub parents-lead : (t : Tree) → IsWellFormed t → (d : ℕ) → Appears t d → list_any (λ e. e == root) (ancestors t d) ≡ true
unfolding ancestors
parents-lead t w d appears =
    let s = sound t w in
    let below = reached-below t s d (appears-reached t s d appears.1) appears.0 in leads t s d below.0 below.1 (length t.nodes) (depth-below t s d below.0 below.1)

pub none-above_itself : (t : Tree) → IsWellFormed t → (d above : ℕ) → Appears t d → d ≢ root → parent t d ≡ Some above → contains_directory t d above ≡ false
unfolding ancestors
none-above_itself t w d above appears other up =
    let s = sound t w in
    let found = parent-entry t (ordered t s.each_node) d above other up in
    let top = reached-below t s above (entry-reached t s above found.0 d found.1) (has_entry-directory t above found.0 d found.1) in
    let deep = one_below d above top.0 other up top.1 in
    ⊎_elim (λ is. let high = higher t s d above top.0 top.1 (length t.nodes) is in absurd (omega (arith, high.1, depth t s d (suc top.0) high.0 deep high.2))) (λ none. none) (cases_Bool (list_any (λ e. e == d) (ancestors t above)))

-- ---- climbing finds exactly the ancestors

module _ (t : Tree) (e : ℕ) where
  abbrev Meets : List ℕ → Type 0
  Meets ds = list_any (λ x. x == e) ds ≡ true

  met-on : (steps d : ℕ) → ((up : ℕ) → Meets (ancestors_within t steps up) → IsAtOrAbove t e up) → Meets (flat_map (ancestors_within t steps) (above_or_none t d)) → IsAtOrAbove t e d
  met-on steps d on met = by (d == root) refl (parent t d) refl met
    where
      by : (top : Bool) → (d == root) ≡ top → (o : Option ℕ) → parent t d ≡ o → Meets (flat_map (ancestors_within t steps) (if top then [] else option_to_list o)) → IsAtOrAbove t e d
      by true top o up met = cc met
      by false top None up met = cc met
      by false top (Some a) up met = is_above d a (eqb-false d root top) up (on a (ap (list_any (λ x. x == e)) (sym (append-nil (ancestors_within t steps a))) ∙ met))

  -- a directory that climbing finds is an ancestor
  met-above : (steps d : ℕ) → Meets (ancestors_within t steps d) → IsAtOrAbove t e d
  met-above zero d met = cc met
  met-above (suc steps) d met =
      ⊎_elim (λ here. let same : e ≡ d = sym (eqb-true d e here) in Rattle.std.proofs.Common.subst (IsAtOrAbove t e) same itself) (λ there. met-on steps d (met-above steps) there)
      (or_cases (d == e) (list_any (λ x. x == e) (flat_map (ancestors_within t steps) (above_or_none t d))) met)

  alone : (d : ℕ) → parent t d ≡ None → IsAtOrAbove t e d → d ≡ e
  alone _ none itself = refl
  alone _ none (is_above d up other is on) = cc

module _ (t : Tree) (s : IsSoundTree t) (e : ℕ) where
  below-up : (d k : ℕ) → IsBelow t d k → d ≢ root → (up : ℕ) → parent t d ≡ Some up → (j : ℕ) × (k ≡ suc j) × IsBelow t up j
  below-up _ _ at_root other up is = absurd (other refl)
  below-up _ _ (one_below d a k apart found below) other up is =
      let same : a ≡ up = cc in (k, refl, Rattle.std.proofs.Common.subst (λ x. IsBelow t x k) same below)

  -- climbing finds each ancestor, given enough steps
  above-met : (d k : ℕ) → IsBelow t d k → (steps : ℕ) → k < steps → IsAtOrAbove t e d → Meets t e (ancestors_within t steps d)
  above-met d k b zero few is = absurd (omega arith)
  above-met _ k b (suc steps) few itself = or_left (e == e) _ (eq-eqb e e refl)
  above-met _ k b (suc steps) few (is_above d up other is on) =
      let higher = below-up d k b other up is in
      ap (list_any (λ x. x == e)) (ancestors-is t s d up steps other is) ∙ or_right (d == e) _ (above-met up higher.0 higher.2 steps (omega (arith, few, higher.1)) on)

  meets : (d : ℕ) → IsAtOrAbove t e d → Meets t e (ancestors_within t (length t.nodes) d)
  meets d is = ⊎_elim
      (λ top. Rattle.std.proofs.Common.subst (λ x. IsAtOrAbove t e x → Meets t e (ancestors_within t (length t.nodes) x)) (sym top)
      (λ there. above-met root 0 at_root (length t.nodes) (depth-below t s root 0 at_root) there) is)
      (λ other. by other (parent t d) refl)
      (cases_eq d root)
    where
      by : d ≢ root → (o : Option ℕ) → parent t d ≡ o → Meets t e (ancestors_within t (length t.nodes) d)
      by other None up =
          Rattle.std.proofs.Common.subst (λ n. Meets t e (ancestors_within t n d)) (sym s.numbers) (or_left (d == e) _ (eq-eqb d e (alone t e d up is)))
      by other (Some a) up =
          let found = parent-entry t (ordered t s.each_node) d a other up in
          let high = reached-below t s a (entry-reached t s a found.0 d found.1) (has_entry-directory t a found.0 d found.1) in
          let b = one_below d a high.0 other up high.1 in
          above-met d (suc high.0) b (length t.nodes) (depth-below t s d (suc high.0) b) is

pub ancestors-above : (t : Tree) → IsWellFormed t → (d e : ℕ) → (contains_directory t e d ≡ true) ↔ IsAtOrAbove t e d
unfolding ancestors
ancestors-above t w d e = (met-above t e (length t.nodes) d, meets t (sound t w) e d)
