-- Maps from numbers, as lists of options.
use Rattle.std.proofs.Common.{◌≡◌, ℕ, zero, suc, ◌+◌, ◌<◌, ◌≢◌, [], ◌∷◌, length, get_or, set, replicate, Option, None, Some, refl, sym, ap, arith}
use Rattle.std.specs.List.{sum_by}
use Rattle.std.proofs.lemmas.List.Sums.{sum_by-cons}
use Rattle.pv_model.specs.Machine.{Numbered, at_number, with_number, without_number, least_free, present}

module _ {X : Type 0} where
  pub at_number-get_or : (xs : Numbered X) (n : ℕ) → at_number xs n ≡ get_or xs n None
  at_number-get_or [] n = refl
  at_number-get_or (x ∷ xs) zero = refl
  at_number-get_or (x ∷ xs) (suc n) = at_number-get_or xs n

  pub with_number-set : (xs : Numbered X) (n : ℕ) (v : X) → n < length xs → with_number xs n v ≡ set xs n (Some v)
  with_number-set [] n v within = absurd (omega arith)
  with_number-set (x ∷ xs) zero v within = refl
  with_number-set (x ∷ xs) (suc n) v within = ap (λ ys. x ∷ ys) (with_number-set xs n v (omega arith))

  pub without_number-set : (xs : Numbered X) (n : ℕ) → without_number xs n ≡ set xs n None
  without_number-set [] n = refl
  without_number-set (x ∷ xs) zero = refl
  without_number-set (x ∷ xs) (suc n) = ap (λ ys. x ∷ ys) (without_number-set xs n)

  -- a number with a value is within the list
  pub at_number-within : (xs : Numbered X) (n : ℕ) (v : X) → at_number xs n ≡ Some v → n < length xs
  at_number-within [] n v there = cc
  at_number-within (x ∷ xs) zero v there = omega arith
  at_number-within (x ∷ xs) (suc n) v there = omega (arith, at_number-within xs n v there)

  abbrev measured : (X → ℕ) → Option X → ℕ
  measured f None = 0
  measured f (Some x) = f x

  module _ (f : X → ℕ) where
    -- the sum over the values, with one changed
    pub sum_by-with_number : (xs : Numbered X) (n : ℕ) (old new : X) → at_number xs n ≡ Some old → sum_by f (present (with_number xs n new)) + f old ≡ sum_by f (present xs) + f new
    sum_by-with_number [] n old new there = cc
    sum_by-with_number (None ∷ xs) zero old new there = cc
    sum_by-with_number (Some x ∷ xs) zero old new there =
        let same : f x ≡ f old = ap (measured f) there in
        omega (arith, sum_by-cons f x (present xs), sum_by-cons f new (present xs), same)
    sum_by-with_number (None ∷ xs) (suc n) old new there = sum_by-with_number xs n old new there
    sum_by-with_number (Some x ∷ xs) (suc n) old new there =
        omega (arith, sum_by-cons f x (present xs), sum_by-cons f x (present (with_number xs n new)), sum_by-with_number xs n old new there)

  -- the least free number
  pub least_free_is : (xs : Numbered X) (n : ℕ) → n < length xs → at_number xs n ≡ None → ((k : ℕ) → k < n → at_number xs k ≢ None) → least_free xs ≡ n
  least_free_is [] n within free below = absurd (omega arith)
  least_free_is (None ∷ xs) zero within free below = refl
  least_free_is (None ∷ xs) (suc n) within free below = absurd (below 0 (omega arith) refl)
  least_free_is (Some x ∷ xs) zero within free below = cc
  least_free_is (Some x ∷ xs) (suc n) within free below = ap suc (least_free_is xs n (omega arith) free (λ k less. below (suc k) (omega arith)))

  pub least_free_none : (xs : Numbered X) → ((k : ℕ) → k < length xs → at_number xs k ≢ None) → least_free xs ≡ length xs
  least_free_none [] full = refl
  least_free_none (None ∷ xs) full = absurd (full 0 (omega arith) refl)
  least_free_none (Some x ∷ xs) full = ap suc (least_free_none xs (λ k less. full (suc k) (omega arith)))

module _ {X : Type 0} where
  pub at_number-with_number_same : (xs : Numbered X) (n : ℕ) (old new : X) → at_number xs n ≡ Some old → at_number (with_number xs n new) n ≡ Some new
  at_number-with_number_same [] n old new there = cc
  at_number-with_number_same (x ∷ xs) zero old new there = refl
  at_number-with_number_same (x ∷ xs) (suc n) old new there = at_number-with_number_same xs n old new there

  pub with_number-with_number : (xs : Numbered X) (n : ℕ) (old new newer : X) → at_number xs n ≡ Some old → with_number (with_number xs n new) n newer ≡ with_number xs n newer
  with_number-with_number [] n old new newer there = cc
  with_number-with_number (x ∷ xs) zero old new newer there = refl
  with_number-with_number (x ∷ xs) (suc n) old new newer there = ap (λ ys. x ∷ ys) (with_number-with_number xs n old new newer there)

  pub with_number-itself : (xs : Numbered X) (n : ℕ) (v : X) → at_number xs n ≡ Some v → with_number xs n v ≡ xs
  with_number-itself [] n v there = cc
  with_number-itself (x ∷ xs) zero v there = ap (λ y. y ∷ xs) (sym there)
  with_number-itself (x ∷ xs) (suc n) v there = ap (λ ys. x ∷ ys) (with_number-itself xs n v there)

  pub without_number-with_number : (xs : Numbered X) (n : ℕ) (old v : X) → at_number xs n ≡ Some old → without_number (with_number xs n v) n ≡ without_number xs n
  without_number-with_number [] n old v there = cc
  without_number-with_number (x ∷ xs) zero old v there = refl
  without_number-with_number (x ∷ xs) (suc n) old v there = ap (λ ys. x ∷ ys) (without_number-with_number xs n old v there)

-- a map without values
pub at_number-none : {X : Type 0} (k n : ℕ) → at_number {X = X} (replicate k None) n ≡ None
at_number-none zero n = refl
at_number-none (suc k) zero = refl
at_number-none (suc k) (suc n) = at_number-none k n
