-- Entries sorted by name, and permutations of them.
use Rattle.std.proofs.Common.{◌≡◌, ℕ, Bool, true, false, ◌&&◌, ◌||◌, ◌==◌, cond, List, [], ◌∷◌, map, Option, None, Some, is_some, bytes_eq, IsPermutation, ap, sym, ◌∙◌, refl, ⊎_elim}
use Rattle.std.specs.FinMap.Entries.{find, is_sorted, below_all, is_some-find, same_entries}
use Rattle.std.specs.List.{AllByRecursion, list_any}
use Rattle.std.specs.Ordering.{is_eq, eq_by_cmp}
use Rattle.std.proofs.lemmas.Bool.{and_parts, and_from, or_cases, or_left, or_right, or_from, eqb-true, eq-eqb}
use Rattle.std.proofs.lemmas.Cmp.{nat_list_cmp_total, nat_list_eq_equiv}
use Rattle.std.proofs.lemmas.List.Sorted.{IsPermutation-map, IsPermutation-sym, list_any-IsPermutation}
use Rattle.std.proofs.lemmas.Map.Keys.{IsDistinct-IsPermutation}
use Rattle.pv_model.specs.Machine.{Bytes, appears_twice, Entries}
use Rattle.pv_laws_trees.proofs.DirectoryEntries.{by_name, ties-bytes_eq, tied-same, tied_itself, bytes_eq-same, report, find_after}
use Rattle.pv_laws_trees.proofs.Ranges.{once-distinct, distinct-once, each_weaker}

abbrev pub entry_name : Bytes × ℕ → Bytes
entry_name e = e.0

abbrev is_entry : Bytes → ℕ → Bytes × ℕ → Bool
is_entry name n e = bytes_eq name e.0 && (e.1 == n)

-- a lookup finds an entry, and finds each entry
found-entry : (name : Bytes) (n : ℕ) (es : Entries) → find by_name name es ≡ Some n → list_any (is_entry name n) es ≡ true
found-entry name n [] is = cc is
found-entry name n (e ∷ es) is =
    elim (eq_by_cmp by_name name e.0) as (λ b. eq_by_cmp by_name name e.0 ≡ b → cond b (Some e.1) (find by_name name es) ≡ Some n → list_any (is_entry name n) (e ∷ es) ≡ true) [
      | true ↦ λ tied here. or_left (is_entry name n e) _ (and_from (bytes_eq name e.0) (e.1 == n) (sym (ties-bytes_eq name e.0) ∙ tied) (eq-eqb e.1 n (cc here)))
      | false ↦ λ tied there. or_right (is_entry name n e) _ (found-entry name n es there)
    ] refl is

first-found : (e : Bytes × ℕ) (es : Entries) → find by_name e.0 (e ∷ es) ≡ Some e.1
first-found e es = ap (λ b. cond b (Some e.1) (find by_name e.0 es)) (tied_itself e.0)

entry-found : (name : Bytes) (n : ℕ) (es : Entries) → is_sorted by_name es ≡ true → list_any (is_entry name n) es ≡ true → find by_name name es ≡ Some n
entry-found name n [] sorted is = cc is
entry-found name n (e ∷ es) sorted is =
    ⊎_elim
    (λ here. let parts = and_parts (bytes_eq name e.0) (e.1 == n) here in
    ap (λ q. find by_name q (e ∷ es)) (bytes_eq-same name e.0 parts.0) ∙ first-found e es ∙ ap Some (eqb-true e.1 n parts.1))
    (λ there. (find_after name n e es sorted (entry-found name n es (and_parts (below_all by_name e.0 es) (is_sorted by_name es) sorted).1 there)).1)
    (or_cases (is_entry name n e) (list_any (is_entry name n) es) is)

pub each-found : (es : Entries) → is_sorted by_name es ≡ true → AllByRecursion (λ (e : Bytes × ℕ). find by_name e.0 es ≡ Some e.1) es
each-found [] sorted = tt
each-found (e ∷ es) sorted = (
  first-found e es,
  each_weaker (λ (f : Bytes × ℕ). find by_name f.0 es ≡ Some f.1) (λ (f : Bytes × ℕ). find by_name f.0 (e ∷ es) ≡ Some f.1) (λ f there. (find_after f.0 f.1 e es sorted there).1) es
      (each-found es (and_parts (below_all by_name e.0 es) (is_sorted by_name es) sorted).1),
)

-- no name occurs twice
names-once : (es : Entries) → is_sorted by_name es ≡ true → appears_twice bytes_eq (map entry_name es) ≡ false
names-once [] sorted = refl
names-once (e ∷ es) sorted =
    or_from (list_any (bytes_eq e.0) (map entry_name es)) (appears_twice bytes_eq (map entry_name es)) first
    (names-once es (and_parts (below_all by_name e.0 es) (is_sorted by_name es) sorted).1)
  where
    tied : (names : List Bytes) → list_any (bytes_eq e.0) names ≡ list_any (eq_by_cmp by_name e.0) names
    tied [] = refl
    tied (q ∷ names) = λ i. sym (ties-bytes_eq e.0 q) i || tied names i

    none : (o : Option ℕ) → find by_name e.0 es ≡ o → is_some o ≡ false
    none None at = refl
    none (Some n) at = absurd ((find_after e.0 n e es sorted at).0 refl)

    first : list_any (bytes_eq e.0) (map entry_name es) ≡ false
    first = tied (map entry_name es) ∙ sym (is_some-find by_name e.0 es) ∙ none (find by_name e.0 es) refl

pub permuted-once : (listed es : Entries) → IsPermutation listed es → is_sorted by_name es ≡ true → appears_twice bytes_eq (map entry_name listed) ≡ false
permuted-once listed es same sorted =
    distinct-once bytes_eq (map entry_name listed)
    (IsDistinct-IsPermutation bytes_eq nat_list_eq_equiv.symm (map entry_name es) (map entry_name listed)
    (IsPermutation-sym (map entry_name listed) (map entry_name es) (IsPermutation-map entry_name listed es same)) (once-distinct bytes_eq (map entry_name es) (names-once es sorted)))

-- two sorted permutations of each other are equal
pub one-order : (es fs : Entries) → IsPermutation es fs → is_sorted by_name es ≡ true → is_sorted by_name fs ≡ true → es ≡ fs
one-order es fs same sorted too =
    same_entries by_name nat_list_cmp_total (λ a b tied. tied-same a b (ap is_eq tied)) es fs (report (is_sorted by_name es) sorted) (report (is_sorted by_name fs) too) alike
  where
    over : (name : Bytes) (n : ℕ) → find by_name name es ≡ Some n → find by_name name fs ≡ Some n
    over name n at = entry-found name n fs too (sym (list_any-IsPermutation (is_entry name n) es fs same) ∙ found-entry name n es at)

    back : (name : Bytes) (n : ℕ) → find by_name name fs ≡ Some n → find by_name name es ≡ Some n
    back name n at = entry-found name n es sorted (list_any-IsPermutation (is_entry name n) es fs same ∙ found-entry name n fs at)

    by : (name : Bytes) (o p : Option ℕ) → find by_name name es ≡ o → find by_name name fs ≡ p → o ≡ p
    by name (Some n) p at other = sym (over name n at) ∙ other
    by name None None at other = refl
    by name None (Some n) at other = sym at ∙ back name n other

    alike : (name : Bytes) → find by_name name es ≡ find by_name name fs
    alike name = by name (find by_name name es) (find by_name name fs) refl refl
