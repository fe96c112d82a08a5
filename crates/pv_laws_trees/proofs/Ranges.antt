-- Ranges of numbers, tests of all elements of a list, and lists without duplicates.
use Rattle.std.proofs.Common.{◌≡◌, ℕ, zero, suc, ◌+◌, ◌<◌, ◌≤◌, Bool, true, false, ◌&&◌, ◌||◌, ◌==◌, cond, List, [], ◌∷◌, ◌++◌, map, flat_map, filter, length, Option, None, Some, ap, sym, subst, ◌∙◌, refl, arith, ⊎_elim}
use Rattle.std.specs.Cmp.{nat_eq_equiv}
use Rattle.std.specs.List.{AllByRecursion, IsDistinct, list_any, range_with_len}
use Rattle.std.proofs.lemmas.Bool.{or_cases, or_from, or_left, or_right, or_parts, cases_eq, eq-eqb, eqb-true}
use Rattle.std.proofs.lemmas.List.{length-append}
use Rattle.std.proofs.lemmas.List.Folds.{list_any-append}
use Rattle.std.proofs.lemmas.List.FromFn.{length-range_with_len}
use Rattle.std.proofs.lemmas.Map.Made.{length-le_from_is_member}
use Rattle.pv_model.specs.Machine.{appears_twice, at_number, numbered_from}
use Rattle.pv_laws_trees.specs.Inodes.{have_common_element}

-- ---- ranges

pub each_in_range : (P : ℕ → Type 0) (from k : ℕ) → ((n : ℕ) → from ≤ n → n < from + k → P n) → AllByRecursion P (range_with_len from k)
each_in_range P from zero each = tt
each_in_range P from (suc k) each = (each from (omega arith) (omega arith), each_in_range P (from + 1) k (λ n low high. each n (omega (arith, low)) (omega (arith, high))))

pub in_range : (from k n : ℕ) → from ≤ n → n < from + k → list_any (λ m. n == m) (range_with_len from k) ≡ true
in_range from zero n low high = absurd (omega arith)
in_range from (suc k) n low high =
    ⊎_elim (λ same. or_left (n == from) _ (eq-eqb n from same))
    (λ other. or_right (n == from) _ (in_range (from + 1) k n (omega (arith, other, low)) (omega (arith, high)))) (cases_eq n from)

pub last_of_range : (from k last : ℕ) → from + k ≡ last → range_with_len from (suc k) ≡ range_with_len from k ++ last ∷ []
last_of_range from zero last is = ap (λ n. n ∷ []) (let e : from ≡ last = omega (arith, is) in e)
last_of_range from (suc k) last is = ap (λ ns. from ∷ ns) (last_of_range (from + 1) k last (omega (arith, is)))

-- an element of a range that passes a test
pub any_in_range : (test : ℕ → Bool) (from k : ℕ) → list_any test (range_with_len from k) ≡ true → (n : ℕ) × (from ≤ n) × (n < from + k) × (test n ≡ true)
any_in_range test from zero is = cc is
any_in_range test from (suc k) is =
    ⊎_elim {C = (n : ℕ) × (from ≤ n) × (n < from + suc k) × (test n ≡ true)} (λ here. (from, omega arith, omega arith, here))
    (λ there. let rest = any_in_range test (from + 1) k there in
    let low : from + 1 ≤ rest.0 = rest.1 in
    let high : rest.0 < from + 1 + k = rest.2 in
    (rest.0, omega (arith, low), omega (arith, high), rest.3)) (or_cases (test from) _ is)

pub range_any : (test : ℕ → Bool) (from k n : ℕ) → from ≤ n → n < from + k → test n ≡ true → list_any test (range_with_len from k) ≡ true
range_any test from zero n low high is = absurd (omega arith)
range_any test from (suc k) n low high is =
    ⊎_elim (λ same. or_left (test from) _ (ap test (sym same) ∙ is))
    (λ other. or_right (test from) _ (range_any test (from + 1) k n (omega (arith, other, low)) (omega (arith, high)) is)) (cases_eq n from)

-- ---- tests of lists

module _ {X : Type 0} where
  pub none_any : (test : X → Bool) (xs : List X) → list_any test xs ≡ false → AllByRecursion (λ x. test x ≡ false) xs
  none_any test [] none = tt
  none_any test (x ∷ xs) none = let parts = or_parts (test x) (list_any test xs) none in (parts.0, none_any test xs parts.1)

  pub any_none : (test : X → Bool) (xs : List X) → AllByRecursion (λ x. test x ≡ false) xs → list_any test xs ≡ false
  any_none test [] none = refl
  any_none test (x ∷ xs) none = or_from (test x) (list_any test xs) none.0 (any_none test xs none.1)

  pub each_weaker : (P Q : X → Type 0) → ((x : X) → P x → Q x) → (xs : List X) → AllByRecursion P xs → AllByRecursion Q xs
  each_weaker P Q weaker [] all = tt
  each_weaker P Q weaker (x ∷ xs) all = (weaker x all.0, each_weaker P Q weaker xs all.1)

  pub each_append : (P : X → Type 0) (xs ys : List X) → AllByRecursion P xs → AllByRecursion P ys → AllByRecursion P (xs ++ ys)
  each_append P [] ys front back = back
  each_append P (x ∷ xs) ys front back = (front.0, each_append P xs ys front.1 back)

  pub append_each : (P : X → Type 0) (xs ys : List X) → AllByRecursion P (xs ++ ys) → AllByRecursion P xs × AllByRecursion P ys
  append_each P [] ys all = (tt, all)
  append_each P (x ∷ xs) ys all = let rest = append_each P xs ys all.1 in ((all.0, rest.0), rest.1)

  -- a property of all elements holds for each
  pub each_at : (P : X → Type 0) (test : X → Bool) (xs : List X) → AllByRecursion P xs → list_any test xs ≡ true → (x : X) × P x × (test x ≡ true)
  each_at P test [] all is = cc is
  each_at P test (x ∷ xs) all is = ⊎_elim {C = (x : X) × P x × (test x ≡ true)} (λ here. (x, all.0, here)) (λ there. each_at P test xs all.1 there) (or_cases (test x) _ is)

  pub length-filter_append : (p : X → Bool) (xs ys : List X) → length (filter p (xs ++ ys)) ≡ length (filter p xs) + length (filter p ys)
  length-filter_append p [] ys = omega arith
  length-filter_append p (x ∷ xs) ys =
      elim (p x) as (λ b. length (cond b (x ∷ filter p (xs ++ ys)) (filter p (xs ++ ys))) ≡ length (cond b (x ∷ filter p xs) (filter p xs)) + length (filter p ys)) [
        | true ↦ omega (arith, length-filter_append p xs ys)
        | false ↦ length-filter_append p xs ys
      ]

module _ {X Y : Type 0} where
  pub each_flat : (P : Y → Type 0) (f : X → List Y) (xs : List X) → AllByRecursion (λ x. AllByRecursion P (f x)) xs → AllByRecursion P (flat_map f xs)
  each_flat P f [] all = tt
  each_flat P f (x ∷ xs) all = each_append P (f x) (flat_map f xs) all.0 (each_flat P f xs all.1)

  pub flat_each : (P : Y → Type 0) (f : X → List Y) (xs : List X) → AllByRecursion P (flat_map f xs) → AllByRecursion (λ x. AllByRecursion P (f x)) xs
  flat_each P f [] all = tt
  flat_each P f (x ∷ xs) all = let parts = append_each P (f x) (flat_map f xs) all in (parts.0, flat_each P f xs parts.1)

  -- lists with equal counts in each place
  pub as_many_flat : {Z : Type 0} (f : X → List Y) (g : X → List Z) (p : Z → Bool) (xs : List X) → AllByRecursion (λ x. length (f x) ≡ length (filter p (g x))) xs
      → length (flat_map f xs) ≡ length (filter p (flat_map g xs))
  as_many_flat f g p [] same = refl
  as_many_flat f g p (x ∷ xs) same =
      length-append (f x) (flat_map f xs) ∙ ap (λ k. k + length (flat_map f xs)) same.0 ∙ ap (λ k. length (filter p (g x)) + k) (as_many_flat f g p xs same.1)
      ∙ sym (length-filter_append p (g x) (flat_map g xs))

-- a property of all numbers of a range holds for each
pub range_each : (P : ℕ → Type 0) (from k : ℕ) → AllByRecursion P (range_with_len from k) → (n : ℕ) → from ≤ n → n < from + k → P n
range_each P from zero all n low high = absurd (omega arith)
range_each P from (suc k) all n low high =
    ⊎_elim (λ same. subst P (sym same) all.0) (λ other. range_each P (from + 1) k all.1 n (omega (arith, other, low)) (omega (arith, high))) (cases_eq n from)

-- ---- lists without duplicates

module _ {X : Type 0} (same : X → X → Bool) where
  pub once-distinct : (xs : List X) → appears_twice same xs ≡ false → IsDistinct same xs
  unfolding IsDistinct
  once-distinct [] once = tt
  once-distinct (x ∷ xs) once = let parts = or_parts (list_any (same x) xs) (appears_twice same xs) once in (none_any (same x) xs parts.0, once-distinct xs parts.1)

  pub distinct-once : (xs : List X) → IsDistinct same xs → appears_twice same xs ≡ false
  unfolding IsDistinct
  distinct-once [] once = refl
  distinct-once (x ∷ xs) once = or_from (list_any (same x) xs) (appears_twice same xs) (any_none (same x) xs once.0) (distinct-once xs once.1)

any_append : (test : ℕ → Bool) (xs ys : List ℕ) → list_any test xs ≡ false → list_any test ys ≡ false → list_any test (xs ++ ys) ≡ false
any_append test [] ys front back = back
any_append test (x ∷ xs) ys front back = let parts = or_parts (test x) (list_any test xs) front in or_from (test x) (list_any test (xs ++ ys)) parts.0 (any_append test xs ys parts.1 back)

append_any : (test : ℕ → Bool) (xs ys : List ℕ) → list_any test (xs ++ ys) ≡ false → (list_any test xs ≡ false) × (list_any test ys ≡ false)
append_any test [] ys none = (refl, none)
append_any test (x ∷ xs) ys none =
    let parts = or_parts (test x) (list_any test (xs ++ ys)) none in
    let rest = append_any test xs ys parts.1 in
    (or_from (test x) (list_any test xs) parts.0 rest.0, rest.1)

none_in_empty : (ys : List ℕ) → have_common_element [] ys ≡ false
none_in_empty [] = refl
none_in_empty (y ∷ ys) = none_in_empty ys

both_parts : (x : ℕ) (xs ys : List ℕ) → have_common_element (x ∷ xs) ys ≡ false → (list_any (λ y. x == y) ys ≡ false) × (have_common_element xs ys ≡ false)
both_parts x xs [] none = (refl, refl)
both_parts x xs (y ∷ ys) none =
    let here = or_parts ((x == y) || list_any (λ other. other == y) xs) (have_common_element (x ∷ xs) ys) none in
    let parts = or_parts (x == y) (list_any (λ other. other == y) xs) here.0 in
    let rest = both_parts x xs ys here.1 in
    (or_from (x == y) _ parts.0 rest.0, or_from (list_any (λ other. other == y) xs) _ parts.1 rest.1)

parts_both : (x : ℕ) (xs ys : List ℕ) → list_any (λ y. x == y) ys ≡ false → have_common_element xs ys ≡ false → have_common_element (x ∷ xs) ys ≡ false
parts_both x xs [] first rest = refl
parts_both x xs (y ∷ ys) first rest =
    let a = or_parts (x == y) (list_any (λ y. x == y) ys) first in
    let b = or_parts (list_any (λ other. other == y) xs) (have_common_element xs ys) rest in
    or_from ((x == y) || list_any (λ other. other == y) xs) (have_common_element (x ∷ xs) ys) (or_from (x == y) (list_any (λ other. other == y) xs) a.0 b.0) (parts_both x xs ys a.1 b.1)

pub apart-once : (xs ys : List ℕ) → appears_twice ◌==◌ xs ≡ false → appears_twice ◌==◌ ys ≡ false → have_common_element xs ys ≡ false → appears_twice ◌==◌ (xs ++ ys) ≡ false
apart-once [] ys front back both = back
apart-once (x ∷ xs) ys front back both =
    let here = or_parts (list_any (λ y. x == y) xs) (appears_twice ◌==◌ xs) front in
    let parts = both_parts x xs ys both in
    or_from (list_any (λ y. x == y) (xs ++ ys)) (appears_twice ◌==◌ (xs ++ ys)) (any_append (λ y. x == y) xs ys here.0 parts.0) (apart-once xs ys here.1 back parts.1)

pub once-apart : (xs ys : List ℕ) → appears_twice ◌==◌ (xs ++ ys) ≡ false → (appears_twice ◌==◌ xs ≡ false) × (appears_twice ◌==◌ ys ≡ false) × (have_common_element xs ys ≡ false)
once-apart [] ys once = (refl, once, none_in_empty ys)
once-apart (x ∷ xs) ys once =
    let here = or_parts (list_any (λ y. x == y) (xs ++ ys)) (appears_twice ◌==◌ (xs ++ ys)) once in
    let parts = append_any (λ y. x == y) xs ys here.0 in
    let rest = once-apart xs ys here.1 in
    (or_from (list_any (λ y. x == y) xs) (appears_twice ◌==◌ xs) parts.0 rest.0, rest.1, parts_both x xs ys parts.1 rest.2)

-- distinct numbers of a range are no more than the numbers of the range
pub distinct-within : (xs : List ℕ) (from k : ℕ) → IsDistinct ◌==◌ xs → AllByRecursion (λ n. (from ≤ n) × (n < from + k)) xs → length xs ≤ k
distinct-within xs from k distinct within =
    let few : length xs ≤ length (range_with_len from k) = length-le_from_is_member nat_eq_equiv xs (range_with_len from k) distinct
    (λ q is. let found = each_at (λ n. (from ≤ n) × (n < from + k)) (λ n. q == n) xs within is in
    let same : q ≡ found.0 = eqb-true q found.0 found.2 in
    subst (λ n. list_any (λ m. n == m) (range_with_len from k) ≡ true) (sym same) (in_range from k found.0 found.1.0 found.1.1)) in
    omega (arith, few, length-range_with_len from k)

-- ---- maps given by a function

module _ {X : Type 0} (f : ℕ → Option X) where
  pub at-made : (from k n : ℕ) → n < k → at_number (map f (range_with_len from k)) n ≡ f (from + n)
  at-made from zero n high = absurd (omega arith)
  at-made from (suc k) zero high = ap f (let e : from ≡ from + 0 = omega arith in e)
  at-made from (suc k) (suc n) high = at-made (from + 1) k n (omega (arith, high)) ∙ ap f (let e : from + 1 + n ≡ from + suc n = omega arith in e)

  pub past-made : (from k n : ℕ) → k ≤ n → at_number (map f (range_with_len from k)) n ≡ None
  past-made from zero n low = refl
  past-made from (suc k) zero low = absurd (omega arith)
  past-made from (suc k) (suc n) low = past-made (from + 1) k n (omega (arith, low))

  -- concatenations over the values of a map
  pub flat-made : {Y : Type 0} (g : ℕ × X → List Y) (h : ℕ → List Y) (from k : ℕ)
      → ((n : ℕ) → from ≤ n → n < from + k → f n ≡ None → h n ≡ []) → ((n : ℕ) (x : X) → f n ≡ Some x → g (n, x) ≡ h n)
      → flat_map g (numbered_from from (map f (range_with_len from k))) ≡ flat_map h (range_with_len from k)
  flat-made g h from zero none some = refl
  flat-made {Y = Y} g h from (suc k) none some =
      let on : suc from ≡ from + 1 = omega arith in
      let next : flat_map g (numbered_from (suc from) (map f (range_with_len (from + 1) k))) ≡ flat_map h (range_with_len (from + 1) k) =
      ap (λ j. flat_map g (numbered_from j (map f (range_with_len (from + 1) k)))) on
      ∙ flat-made g h (from + 1) k (λ n low high. none n (omega (arith, low)) (omega (arith, high))) some in
      elim (f from) as (λ o. f from ≡ o → flat_map g (numbered_from from (o ∷ map f (range_with_len (from + 1) k))) ≡ h from ++ flat_map h (range_with_len (from + 1) k)) [
        | None ↦ λ is. next ∙ ap (λ (ys : List Y). ys ++ flat_map h (range_with_len (from + 1) k)) (sym (none from (omega arith) (omega arith) is))
        | Some x ↦ λ is. ap (λ (ys : List Y). g (from, x) ++ ys) next ∙ ap (λ (ys : List Y). ys ++ flat_map h (range_with_len (from + 1) k)) (some from x is)
      ] refl

-- ---- tests of parts

module _ {X Y : Type 0} where
  pub any_map : (f : X → Y) (test : Y → Bool) (xs : List X) → list_any test (map f xs) ≡ list_any (λ x. test (f x)) xs
  any_map f test [] = refl
  any_map f test (x ∷ xs) = ap (λ b. test (f x) || b) (any_map f test xs)

pub any_filter : {X : Type 0} (p q : X → Bool) (xs : List X) → list_any q (filter p xs) ≡ list_any (λ x. p x && q x) xs
any_filter p q [] = refl
any_filter p q (x ∷ xs) =
    elim (p x) as (λ b. list_any q (cond b (x ∷ filter p xs) (filter p xs)) ≡ (b && q x || list_any (λ x. p x && q x) xs)) [
      | true ↦ ap (λ b. q x || b) (any_filter p q xs)
      | false ↦ any_filter p q xs
    ]

-- a nonempty filtered list has an element that passes
pub some_left : {X : Type 0} (p : X → Bool) (xs : List X) → 1 ≤ length (filter p xs) → list_any p xs ≡ true
some_left p [] some = absurd (omega (arith, some))
some_left p (x ∷ xs) some =
    elim (p x) as (λ b. 1 ≤ length (cond b (x ∷ filter p xs) (filter p xs)) → (b || list_any p xs) ≡ true) [
      | true ↦ λ h. refl
      | false ↦ λ h. some_left p xs h
    ] some

pub any_flat : {X Y : Type 0} (test : Y → Bool) (f : X → List Y) (xs : List X) → list_any test (flat_map f xs) ≡ list_any (λ x. list_any test (f x)) xs
any_flat test f [] = refl
any_flat test f (x ∷ xs) = list_any-append test (f x) (flat_map f xs) ∙ ap (λ b. list_any test (f x) || b) (any_flat test f xs)
