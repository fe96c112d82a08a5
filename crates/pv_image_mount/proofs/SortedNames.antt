-- Sorted names or keys: equal ones are neighbours.
use Rattle.std.proofs.Common.{◌≡◌, ℕ, ◌+◌, ◌-◌, ◌≤◌, ◌<◌, List, [], ◌∷◌, length, get_or, map, Bool, true, false, ap, sym, ◌∙◌, refl, arith}
use Rattle.std.proofs.lemmas.Bool.{or_from, or_parts}
use Rattle.std.proofs.lemmas.Cmp.{eq_by_cmp_equiv, on_total}
use Rattle.std.proofs.lemmas.List.{get_or_default}
use Rattle.std.proofs.lemmas.List.Sorted.{IsPermutation-sym}
use Rattle.std.proofs.lemmas.Map.Keys.{IsDistinct-IsPermutation, IsDistinct-cons, IsDistinct-head, IsDistinct-tail, IsDistinct-from_apart, IsDistinct-from_sorted, apart_from_distinct, sorted_from_all_adjacent}
use Rattle.std.specs.Prelude.{IsPermutation}
use Rattle.std.specs.Cmp.{IsTotalOrder}
use Rattle.std.specs.List.{list_any, AllByRecursion, IsDistinct}
use Rattle.std.specs.List.Sorted.{IsSorted}
use Rattle.std.specs.Ordering.{eq_by_cmp, is_eq, is_lt, ordering_reverse}
use Rattle.std.specs.declared.cmp.Ordering.{Ordering}
use Rattle.std.specs.declared.cmp.Ordering.TheVariants.{Less, Equal, Greater}
use Rattle.pv_model.specs.Machine.{appears_twice}

-- if one is not above another and differs from it, it is below it
less_from : (o p : Ordering) → o ≡ ordering_reverse p → is_lt p ≡ false → is_eq o ≡ false → o ≡ Less
less_from o p is low differs =
    elim p as (λ q. o ≡ ordering_reverse q → is_lt q ≡ false → o ≡ Less) [
      | Less ↦ λ at never. absurd cc
      | Equal ↦ λ at never. let equal : is_eq o ≡ true = ap is_eq at in absurd cc
      | Greater ↦ λ at never. at
    ] is low

-- values as they are compared: an order, and its test for equality
module _ {X K : Type 0} {eq : K → K → Bool} {cmp : K → K → Ordering} (total : IsTotalOrder cmp) (tied : (a b : K) → eq a b ≡ eq_by_cmp cmp a b) (now : X → K) where
  abbrev same : X → X → Bool
  same x y = eq (now x) (now y)

  abbrev order : X → X → Ordering
  order x y = cmp (now x) (now y)

  order_total : IsTotalOrder order
  order_total = on_total now total

  eq_flips : (a b : K) → eq a b ≡ eq b a
  eq_flips a b = tied a b ∙ (eq_by_cmp_equiv total).symm a b ∙ sym (tied b a)

  none-all : (x : X) (xs : List X) → list_any (eq (now x)) (map now xs) ≡ false → AllByRecursion (λ y. same x y ≡ false) xs
  none-all x [] none = tt
  none-all x (y ∷ ys) none =
      let parts = or_parts (eq (now x) (now y)) (list_any (eq (now x)) (map now ys)) none in
      (parts.0, none-all x ys parts.1)

  all-none : (x : X) (xs : List X) → AllByRecursion (λ y. same x y ≡ false) xs → list_any (eq (now x)) (map now xs) ≡ false
  all-none x [] all = refl
  all-none x (y ∷ ys) all = or_from (eq (now x) (now y)) (list_any (eq (now x)) (map now ys)) all.0 (all-none x ys all.1)

  once-distinct : (xs : List X) → appears_twice eq (map now xs) ≡ false → IsDistinct same xs
  once-distinct [] once = IsDistinct-from_apart same [] (λ i j d less within. absurd (omega arith))
  once-distinct (x ∷ xs) once =
      let parts = or_parts (list_any (eq (now x)) (map now xs)) (appears_twice eq (map now xs)) once in
      IsDistinct-cons same x xs (none-all x xs parts.0) (once-distinct xs parts.1)

  distinct-once : (xs : List X) → IsDistinct same xs → appears_twice eq (map now xs) ≡ false
  distinct-once [] apart = refl
  distinct-once (x ∷ xs) apart = or_from (list_any (eq (now x)) (map now xs)) (appears_twice eq (map now xs)) (all-none x xs (IsDistinct-head same x xs apart)) (distinct-once xs (IsDistinct-tail same x xs apart))

  -- equal neighbours
  pub twice_found : (old new : List X) (i : ℕ) (a b : X) → IsPermutation old new → 1 ≤ i → i < length new → eq (now (get_or new (i - 1) a)) (now (get_or new i b)) ≡ true
      → appears_twice eq (map now old) ≡ true
  twice_found old new i a b moved low high is =
      let within : i - 1 < length new = omega arith in
      elim (appears_twice eq (map now old)) as (λ t. appears_twice eq (map now old) ≡ t → t ≡ true) [
        | true ↦ λ twice. refl
        | false ↦ λ once.
            let apart = apart_from_distinct same new (i - 1) i b (IsDistinct-IsPermutation same (λ x y. eq_flips (now x) (now y)) old new moved (once-distinct old once)) (omega arith) high in
            let differs : eq (now (get_or new (i - 1) a)) (now (get_or new i b)) ≡ false = ap (λ x. eq (now x) (now (get_or new i b))) (get_or_default new (i - 1) a b within) ∙ apart in
            absurd cc
      ] refl

  -- neighbours are not equal, whatever is past the end
  pub pair_apart : (xs : List X) (i : ℕ) (d a b : X) → 1 ≤ i → i < length xs → eq (now (get_or xs (i - 1) a)) (now (get_or xs i b)) ≡ false
      → eq (now (get_or xs (i - 1) d)) (now (get_or xs i d)) ≡ false
  pair_apart xs i d a b low high differs =
      let within : i - 1 < length xs = omega arith in
      ap (λ x. eq (now x) (now (get_or xs i d))) (get_or_default xs (i - 1) d a within)
      ∙ ap (λ x. eq (now (get_or xs (i - 1) a)) (now x)) (get_or_default xs i d b high)
      ∙ differs

  rising-distinct : (xs : List X) (d : X) → ((k : ℕ) → k + 1 < length xs → order (get_or xs k d) (get_or xs (k + 1) d) ≡ Less) → IsDistinct same xs
  rising-distinct xs d rises =
      let distinct = IsDistinct-from_sorted order xs (sorted_from_all_adjacent order_total xs d rises) in
      IsDistinct-from_apart same xs (λ i j e less within. tied (now (get_or xs i e)) (now (get_or xs j e)) ∙ apart_from_distinct (eq_by_cmp order) xs i j e distinct less within)

  apart-distinct : (xs : List X) (d : X) → IsSorted order xs → ((k : ℕ) → k < length xs → (e : X) → 1 ≤ k → eq (now (get_or xs (k - 1) e)) (now (get_or xs k e)) ≡ false) → IsDistinct same xs
  apart-distinct xs d up differ =
      let rises = λ (k : ℕ) (within : k + 1 < length xs).
      let x = get_or xs k d in
      let y = get_or xs (k + 1) d in
      let before : k + 1 - 1 ≡ k = omega arith in
      let apart : eq (now x) (now y) ≡ false = sym (ap (λ m. eq (now (get_or xs m d)) (now y)) before) ∙ differ (k + 1) within d (omega arith) in
      less_from (order x y) (order y x) (order_total.antisymm x y) (up k d (omega arith) within) (sym (tied (now x) (now y)) ∙ apart) in
      rising-distinct xs d rises

  -- a list in which each element follows the previous one
  pub once_rising : (xs : List X) (d : X) → ((k : ℕ) → k + 1 < length xs → order (get_or xs k d) (get_or xs (k + 1) d) ≡ Less) → appears_twice eq (map now xs) ≡ false
  once_rising xs d rises = distinct-once xs (rising-distinct xs d rises)

  -- a sorted list without equal neighbours
  pub once_sorted : (old new : List X) → IsPermutation old new → IsSorted order new
      → ((k : ℕ) → k < length new → (e : X) → 1 ≤ k → eq (now (get_or new (k - 1) e)) (now (get_or new k e)) ≡ false) → appears_twice eq (map now old) ≡ false
  once_sorted [] new moved up differ = refl
  once_sorted (x ∷ xs) new moved up differ =
      distinct-once (x ∷ xs) (IsDistinct-IsPermutation same (λ a b. eq_flips (now a) (now b)) new (x ∷ xs) (IsPermutation-sym (x ∷ xs) new moved) (apart-distinct new x up differ))
