-- Maps from numbers, with a function applied to each value.
use Rattle.std.proofs.Common.{◌≡◌, ◌≢◌, ℕ, zero, suc, ◌<◌, [], ◌∷◌, length, map, replicate, None, Some, refl, ap, arith}
use Rattle.std.specs.List.{sum_by}
use Rattle.std.specs.Prelude.{option_map}
use Rattle.std.proofs.lemmas.List.Sums.{sum_by-cons}
use Rattle.pv_model.specs.Machine.{Numbered, at_number, with_number, without_number, least_free, present}

module _ {X Y : Type 0} (g : X → Y) where
  pub at_number-map : (xs : Numbered X) (n : ℕ) → at_number (map (option_map g) xs) n ≡ option_map g (at_number xs n)
  at_number-map [] n = refl
  at_number-map (x ∷ xs) zero = refl
  at_number-map (x ∷ xs) (suc n) = at_number-map xs n

  pub map-with_number : (xs : Numbered X) (n : ℕ) (v : X) → map (option_map g) (with_number xs n v) ≡ with_number (map (option_map g) xs) n (g v)
  map-with_number [] n v = refl
  map-with_number (x ∷ xs) zero v = refl
  map-with_number (x ∷ xs) (suc n) v = ap (λ ys. option_map g x ∷ ys) (map-with_number xs n v)

  pub map-without_number : (xs : Numbered X) (n : ℕ) → map (option_map g) (without_number xs n) ≡ without_number (map (option_map g) xs) n
  map-without_number [] n = refl
  map-without_number (x ∷ xs) zero = refl
  map-without_number (x ∷ xs) (suc n) = ap (λ ys. option_map g x ∷ ys) (map-without_number xs n)

  pub least_free-map : (xs : Numbered X) → least_free (map (option_map g) xs) ≡ least_free xs
  least_free-map [] = refl
  least_free-map (None ∷ xs) = refl
  least_free-map (Some x ∷ xs) = ap suc (least_free-map xs)

  -- a sum over the values, if each contributes the same
  pub sum_by-present-map : (h : Y → ℕ) (k : X → ℕ) (xs : Numbered X) → ((n : ℕ) (x : X) → at_number xs n ≡ Some x → h (g x) ≡ k x)
      → sum_by h (present (map (option_map g) xs)) ≡ sum_by k (present xs)
  sum_by-present-map h k [] same = refl
  sum_by-present-map h k (None ∷ xs) same = sum_by-present-map h k xs (λ n x there. same (suc n) x there)
  sum_by-present-map h k (Some x ∷ xs) same =
      omega (arith, sum_by-cons h (g x) (present (map (option_map g) xs)), sum_by-cons k x (present xs), same 0 x refl, sum_by-present-map h k xs (λ n y there. same (suc n) y there))

module _ {X : Type 0} where
  pub length-with_number : (xs : Numbered X) (n : ℕ) (v : X) → n < length xs → length (with_number xs n v) ≡ length xs
  length-with_number [] n v within = absurd (omega arith)
  length-with_number (x ∷ xs) zero v within = refl
  length-with_number (x ∷ xs) (suc n) v within = ap suc (length-with_number xs n v (omega arith))

  pub length-without_number : (xs : Numbered X) (n : ℕ) → length (without_number xs n) ≡ length xs
  length-without_number [] n = refl
  length-without_number (x ∷ xs) zero = refl
  length-without_number (x ∷ xs) (suc n) = ap suc (length-without_number xs n)

  -- a property of each other value, and of a new one
  pub each-with_number : (P : ℕ → X → Type 0) (xs : Numbered X) (n : ℕ) (v : X) → n < length xs → ((m : ℕ) (y : X) → m ≢ n → at_number xs m ≡ Some y → P m y) → ((y : X) → Some v ≡ Some y → P n y)
      → (m : ℕ) (y : X) → at_number (with_number xs n v) m ≡ Some y → P m y
  each-with_number P [] n v within each new m y there = absurd (omega arith)
  each-with_number P (x ∷ xs) zero v within each new zero y there = new y there
  each-with_number P (x ∷ xs) zero v within each new (suc m) y there = each (suc m) y (λ e. omega arith) there
  each-with_number P (x ∷ xs) (suc n) v within each new zero y there = each 0 y (λ e. omega arith) there
  each-with_number P (x ∷ xs) (suc n) v within each new (suc m) y there = each-with_number (λ k. P (suc k)) xs n v (omega arith) (λ k z other at. each (suc k) z (λ e. other (omega arith)) at) new m y there

  pub each-without_number : (P : ℕ → X → Type 0) (xs : Numbered X) (n : ℕ) → ((m : ℕ) (y : X) → at_number xs m ≡ Some y → P m y) → (m : ℕ) (y : X) → at_number (without_number xs n) m ≡ Some y → P m y
  each-without_number P [] n each m y there = cc
  each-without_number P (x ∷ xs) zero each zero y there = cc
  each-without_number P (x ∷ xs) zero each (suc m) y there = each (suc m) y there
  each-without_number P (x ∷ xs) (suc n) each zero y there = each 0 y there
  each-without_number P (x ∷ xs) (suc n) each (suc m) y there = each-without_number (λ k. P (suc k)) xs n (λ k z at. each (suc k) z at) m y there

-- ---- maps without values

pub present-none : {X : Type 0} (k : ℕ) → present {X = X} (replicate k None) ≡ []
present-none zero = refl
present-none (suc k) = present-none k

pub map-none : {X Y : Type 0} (g : X → Y) (k : ℕ) → map (option_map g) (replicate k None) ≡ replicate k None
map-none g zero = refl
map-none g (suc k) = ap (λ ys. None ∷ ys) (map-none g k)
