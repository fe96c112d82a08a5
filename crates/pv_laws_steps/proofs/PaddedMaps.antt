-- Maps from numbers, extended by numbers without values.
use Rattle.std.proofs.Common.{◌≡◌, ℕ, zero, suc, ◌≤◌, Bool, true, false, List, [], ◌∷◌, ◌++◌, length, drop, replicate, Option, None, Some, refl, ap, ap₂, arith}
use Rattle.pv_model.specs.Machine.{Numbered, at_number, with_number, least_free, keep_if, present, numbered_from}
use Rattle.pv_model.specs.Numbered.{keep_from}

free-nothing : (X : Type 0) (k : ℕ) → least_free (replicate {A = Option X} k None) ≡ 0
free-nothing X zero = refl
free-nothing X (suc k) = refl

free-less : (X : Type 0) (k : ℕ) → least_free (drop 1 (replicate {A = Option X} k None)) ≡ 0
free-less X zero = refl
free-less X (suc k) = free-nothing X k

module _ {X : Type 0} where
  -- the map with n more numbers without values
  abbrev pub padded : ℕ → Numbered X → Numbered X
  padded k xs = xs ++ replicate k None

  at-nothing : (k n : ℕ) → at_number (padded k []) n ≡ None
  at-nothing zero n = refl
  at-nothing (suc k) zero = refl
  at-nothing (suc k) (suc n) = at-nothing k n

  pub at-padded : (k : ℕ) (xs : Numbered X) (n : ℕ) → at_number (padded k xs) n ≡ at_number xs n
  at-padded k [] n = at-nothing k n
  at-padded k (x ∷ xs) zero = refl
  at-padded k (x ∷ xs) (suc n) = at-padded k xs n

  present-nothing : (k : ℕ) → present (padded k []) ≡ []
  present-nothing zero = refl
  present-nothing (suc k) = present-nothing k

  pub present-padded : (k : ℕ) (xs : Numbered X) → present (padded k xs) ≡ present xs
  present-padded k [] = present-nothing k
  present-padded k (None ∷ xs) = present-padded k xs
  present-padded k (Some x ∷ xs) = ap (λ (ys : List X). x ∷ ys) (present-padded k xs)

  numbered-nothing : (from k : ℕ) → numbered_from from (padded k []) ≡ []
  numbered-nothing from zero = refl
  numbered-nothing from (suc k) = numbered-nothing (suc from) k

  pub numbered-padded : (from k : ℕ) (xs : Numbered X) → numbered_from from (padded k xs) ≡ numbered_from from xs
  numbered-padded from k [] = numbered-nothing from k
  numbered-padded from k (None ∷ xs) = numbered-padded (suc from) k xs
  numbered-padded from k (Some x ∷ xs) = ap (λ (ys : List (ℕ × X)). (from, x) ∷ ys) (numbered-padded (suc from) k xs)

  keep_if-nothing : (b : Bool) → keep_if {X = X} b None ≡ None
  keep_if-nothing true = refl
  keep_if-nothing false = refl

  keep-nothing : (from k : ℕ) (test : ℕ → Bool) → keep_from from test (padded k []) ≡ padded k []
  keep-nothing from zero test = refl
  keep-nothing from (suc k) test = ap₂ (λ (x : Option X) (ys : Numbered X). x ∷ ys) (keep_if-nothing (test from)) (keep-nothing (suc from) k test)

  pub keep-padded : (from k : ℕ) (test : ℕ → Bool) (xs : Numbered X) → keep_from from test (padded k xs) ≡ padded k (keep_from from test xs)
  keep-padded from k test [] = keep-nothing from k test
  keep-padded from k test (x ∷ xs) = ap (λ (ys : Numbered X). keep_if (test from) x ∷ ys) (keep-padded (suc from) k test xs)

  free-padded : (k : ℕ) (xs : Numbered X) → least_free (padded k xs) ≡ least_free xs
  free-padded k [] = free-nothing X k
  free-padded k (None ∷ xs) = refl
  free-padded k (Some x ∷ xs) = ap suc (free-padded k xs)

  pub free-dropped : (k : ℕ) (xs : Numbered X) → least_free (drop 1 (padded k xs)) ≡ least_free (drop 1 xs)
  free-dropped k [] = free-less X k
  free-dropped k (x ∷ xs) = free-padded k xs

  -- a change at a number of the map, if it keeps the length
  pub with-padded : (k : ℕ) (xs : Numbered X) (n : ℕ) (v : X) → length (with_number xs n v) ≡ length xs → with_number (padded k xs) n v ≡ padded k (with_number xs n v)
  with-padded k [] n v same = absurd (omega (arith, same))
  with-padded k (x ∷ xs) zero v same = refl
  with-padded k (x ∷ xs) (suc n) v same = ap (λ (ys : Numbered X). x ∷ ys) (with-padded k xs n v (omega (arith, same)))

  -- a change does not decrease the length
  pub length-with_number_le : (xs : Numbered X) (n : ℕ) (v : X) → length xs ≤ length (with_number xs n v)
  length-with_number_le [] n v = omega arith
  length-with_number_le (x ∷ xs) zero v = omega arith
  length-with_number_le (x ∷ xs) (suc n) v = omega (arith, length-with_number_le xs n v)
