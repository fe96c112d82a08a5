-- Lists of which the front is mapped.
use Rattle.std.proofs.Common.{◌≡◌, ◌∙◌, refl, ap, ℕ, zero, suc, ◌+◌, ◌<◌, ◌≤◌, List, [], ◌∷◌, ◌++◌, length, map, take, drop, get_or, slice_set, add-one, arith}

module _ {X : Type 0} (f : X → X) where
  -- the list with its first k elements mapped
  abbrev pub mapped : ℕ → List X → List X
  mapped k xs = map f (take k xs) ++ drop k xs

  pub mapped-get : (k : ℕ) (xs : List X) (d : X) → get_or (mapped k xs) k d ≡ get_or xs k d
  mapped-get zero xs d = refl
  mapped-get (suc k) [] d = refl
  mapped-get (suc k) (x ∷ xs) d = mapped-get k xs d

  set-suc : (k : ℕ) (xs : List X) (d : X) → k < length xs → slice_set (mapped k xs) k (f (get_or xs k d)) ≡ mapped (suc k) xs
  set-suc k [] d within = absurd (omega arith)
  set-suc zero (x ∷ xs) d within = refl
  set-suc (suc k) (x ∷ xs) d within = ap (λ (ys : List X). f x ∷ ys) (set-suc k xs d (omega arith))

  pub mapped-set : (k : ℕ) (xs : List X) (d : X) → k < length xs → slice_set (mapped k xs) k (f (get_or xs k d)) ≡ mapped (k + 1) xs
  mapped-set k xs d within = rw add-one (set-suc k xs d within)

  mapped-past : (k : ℕ) (xs : List X) → length xs ≤ k → mapped k xs ≡ map f xs
  mapped-past zero [] past = refl
  mapped-past (suc k) [] past = refl
  mapped-past zero (x ∷ xs) past = absurd (omega arith)
  mapped-past (suc k) (x ∷ xs) past = ap (λ (ys : List X). f x ∷ ys) (mapped-past k xs (omega arith))

  pub mapped-all : (k : ℕ) (xs : List X) → length xs ≤ k → mapped k xs ≡ map f xs
  mapped-all k xs past = mapped-past k xs past

  pub mapped-length : (k : ℕ) (xs : List X) → length (mapped k xs) ≡ length xs
  mapped-length zero xs = refl
  mapped-length (suc k) [] = refl
  mapped-length (suc k) (x ∷ xs) = ap suc (mapped-length k xs)
