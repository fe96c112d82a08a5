-- Lists, one element at a time.
use Rattle.std.proofs.Common.{◌≡◌, ◌∙◌, refl, sym, ap, ℕ, zero, suc, ◌+◌, ◌<◌, ◌≤◌, true, false, cond, bytes_eq, List, [], ◌∷◌, ◌++◌, append_assoc, append-nil, length, map, flat_map, take, drop, drop-cons, get_or, slice_get, Some, option_map, add-one, arith}
use Rattle.std.specs.Prelude.{find, fold}
use Rattle.std.proofs.lemmas.Grind.{flat_map-append}
use Rattle.std.proofs.lemmas.List.{length-take-le, map-append, take_all, take_more}
use Rattle.std.proofs.lemmas.List.Sums.{fold-append}
use Rattle.pv_model.specs.Machine.{counted_from, Granted, Bytes}
use Rattle.pv_policy.specs.Usage.{permissions_granted_at, permissions_in}

module _ {A B : Type 0} (f : B → A → B) (b : B) where
  -- one more element of a fold
  pub fold-next : (xs : List A) (i : ℕ) (d : A) → i < length xs → fold f b (take (i + 1) xs) ≡ f (fold f b (take i xs)) (get_or xs i d)
  fold-next xs i d within = ap (fold f b) (take_more xs i d within) ∙ fold-append f b (take i xs) (get_or xs i d ∷ [])

  pub fold-all : (xs : List A) (i : ℕ) → length xs ≤ i → fold f b (take i xs) ≡ fold f b xs
  fold-all xs i past = ap (fold f b) (take_all i xs past)

  module _ {X : Type 0} (g : X → A) where
    -- one more element of a fold over a mapped list
    pub fold-next_mapped : (xs : List X) (i : ℕ) (d : X) → i < length xs → fold f b (map g (take (i + 1) xs)) ≡ f (fold f b (map g (take i xs))) (g (get_or xs i d))
    fold-next_mapped xs i d within =
        ap (λ ys. fold f b (map g ys)) (take_more xs i d within)
        ∙ ap (fold f b) (map-append g (take i xs) (get_or xs i d ∷ []))
        ∙ fold-append f b (map g (take i xs)) (g (get_or xs i d) ∷ [])

    pub fold-all_mapped : (xs : List X) (i : ℕ) → length xs ≤ i → fold f b (map g (take i xs)) ≡ fold f b (map g xs)
    fold-all_mapped xs i past = ap (λ ys. fold f b (map g ys)) (take_all i xs past)

module _ {X Y : Type 0} (f : X → List Y) (first : List Y) where
  -- one more list after a first one
  pub flat-next : (xs : List X) (i : ℕ) (d : X) → i < length xs → first ++ flat_map f (take (i + 1) xs) ≡ (first ++ flat_map f (take i xs)) ++ f (get_or xs i d)
  flat-next xs i d within =
      ap (λ ys. first ++ flat_map f ys) (take_more xs i d within)
      ∙ ap (λ (ys : List Y). first ++ ys) (flat_map-append f (take i xs) (get_or xs i d ∷ []) ∙ ap (λ (ys : List Y). flat_map f (take i xs) ++ ys) (append-nil (f (get_or xs i d))))
      ∙ sym (append_assoc first (flat_map f (take i xs)) (f (get_or xs i d)))

  pub flat-all : (xs : List X) (i : ℕ) → length xs ≤ i → first ++ flat_map f (take i xs) ≡ first ++ flat_map f xs
  flat-all xs i past = ap (λ ys. first ++ flat_map f ys) (take_all i xs past)

-- the first row with words
module _ (words : Bytes) where
  pub permissions-next : (rows : List Granted) (i : ℕ) (d : Granted) → i < length rows → bytes_eq (get_or rows i d).0 words ≡ false → permissions_granted_at (drop i rows) words ≡ permissions_granted_at (drop (i + 1) rows) words
  permissions-next rows i d within other =
      ap (λ gs. permissions_granted_at gs words) (drop-cons rows i d within)
      ∙ ap (λ b. permissions_in (cond b (Some (get_or rows i d)) (find (λ g. bytes_eq g.0 words) (drop (suc i) rows)))) other
      ∙ ap (λ j. permissions_granted_at (drop j rows) words) (sym (add-one i))

  pub permissions-here : (rows : List Granted) (i : ℕ) (d : Granted) → i < length rows → bytes_eq (get_or rows i d).0 words ≡ true → permissions_granted_at (drop i rows) words ≡ (get_or rows i d).1
  permissions-here rows i d within is =
      ap (λ gs. permissions_granted_at gs words) (drop-cons rows i d within)
      ∙ ap (λ b. permissions_in (cond b (Some (get_or rows i d)) (find (λ g. bytes_eq g.0 words) (drop (suc i) rows)))) is

-- numbered elements
module _ {X : Type 0} where
  counted-append : (k : ℕ) (xs : List X) (x : X) → counted_from k (xs ++ x ∷ []) ≡ counted_from k xs ++ (k + length xs, x) ∷ []
  counted-append k [] x = ap (λ n. (n, x) ∷ []) (omega arith)
  counted-append k (y ∷ xs) x =
      let same : (k + 1) + length xs ≡ k + suc (length xs) = omega arith in
      ap (λ (es : List (ℕ × X)). (k, y) ∷ es) (counted-append (k + 1) xs x ∙ ap (λ n. counted_from (k + 1) xs ++ (n, x) ∷ []) same)

  pub counted-next : {Y : Type 0} (f : ℕ × X → List Y) (first : List Y) (xs : List X) (i : ℕ) (d : X) → i < length xs
      → first ++ flat_map f (counted_from 1 (take (i + 1) xs)) ≡ (first ++ flat_map f (counted_from 1 (take i xs))) ++ f (i + 1, get_or xs i d)
  counted-next {Y = Y} f first xs i d within =
      let short : length (take i xs) ≡ i = length-take-le i xs (omega arith) in
      let number : 1 + length (take i xs) ≡ i + 1 = omega (arith, short) in
      ap (λ ys. first ++ flat_map f (counted_from 1 ys)) (take_more xs i d within)
      ∙ ap (λ es. first ++ flat_map f es) (counted-append 1 (take i xs) (get_or xs i d) ∙ ap (λ n. counted_from 1 (take i xs) ++ (n, get_or xs i d) ∷ []) number)
      ∙ ap (λ (ys : List Y). first ++ ys) (flat_map-append f (counted_from 1 (take i xs)) ((i + 1, get_or xs i d) ∷ []) ∙ ap (λ (ys : List Y). flat_map f (counted_from 1 (take i xs)) ++ ys) (append-nil (f (i + 1, get_or xs i d))))
      ∙ sym (append_assoc first (flat_map f (counted_from 1 (take i xs))) (f (i + 1, get_or xs i d)))

  pub counted-all : {Y : Type 0} (f : ℕ × X → List Y) (first : List Y) (xs : List X) (i : ℕ) → length xs ≤ i → first ++ flat_map f (counted_from 1 (take i xs)) ≡ first ++ flat_map f (counted_from 1 xs)
  counted-all f first xs i past = ap (λ ys. first ++ flat_map f (counted_from 1 ys)) (take_all i xs past)

-- a mapped list, by its elements
module _ {X Y : Type 0} (f : X → Y) where
  mapped-suc : (xs : List X) (k : ℕ) (y : Y) → option_map f (slice_get xs k) ≡ Some y → map f (take (suc k) xs) ≡ map f (take k xs) ++ y ∷ []
  mapped-suc [] k y is = absurd (cc)
  mapped-suc (x ∷ xs) zero y is = let same : f x ≡ y = cc in ap (λ (z : Y). z ∷ []) same
  mapped-suc (x ∷ xs) (suc k) y is = ap (λ (ys : List Y). f x ∷ ys) (mapped-suc xs k y is)

  pub mapped-next : (xs : List X) (k : ℕ) (y : Y) → option_map f (slice_get xs k) ≡ Some y → map f (take (k + 1) xs) ≡ map f (take k xs) ++ y ∷ []
  mapped-next xs k y is = rw add-one (mapped-suc xs k y is)

  pub mapped-whole : (xs : List X) (k : ℕ) → length xs ≤ k → map f (take k xs) ≡ map f xs
  mapped-whole xs k past = ap (map f) (take_all k xs past)
