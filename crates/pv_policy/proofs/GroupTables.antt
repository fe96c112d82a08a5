-- Tables of groups are the groups of the definitions.
use Rattle.std.proofs.Common.{◌≡◌, ◌∙◌, refl, sym, ap, ap₂, ℕ, zero, suc, ◌+◌, ◌≤◌, ◌<◌, Bool, true, false, true≢false, cond, ◌||◌, not, List, [], ◌∷◌, ◌++◌, length, map, get_or, slice_set, Option, None, Some, bytes_eq, arith}
use Rattle.std.specs.Prelude.{fold, filter}
use Rattle.std.specs.List.{list_any, position_from}
use Rattle.std.proofs.lemmas.Iterator.Adapters.{position_from-zero}
use Rattle.std.proofs.lemmas.List.Quantifiers.{position-Some}
use Rattle.pv_laws_trees.proofs.DirectoryEntries.{bytes_eq-itself, bytes_eq-same}
use Rattle.pv_model.specs.Machine.{elements_with_new_keys, Numbers, groups}
use Rattle.pv_model.specs.Answers.Observed.{with_equal_key}
use Rattle.pv_policy.specs.Groups.{and_more, and_element, is_row_of, row_at}

-- ---- the rest of a list without a group

or-swap : (a b c : Bool) → (a || (b || c)) ≡ (b || (a || c))
or-swap true true c = refl
or-swap true false c = refl
or-swap false true c = refl
or-swap false false c = refl

not-true : (b : Bool) → not b ≡ true → b ≡ false
not-true false is = refl
not-true true is = sym is

module _ {X : Type 0} (key : X → Numbers) where
  abbrev is_alike : Numbers → X → Bool
  is_alike k x = bytes_eq (key x) k

  abbrev alike : Numbers → List X → List X
  alike k xs = filter (is_alike k) xs

  abbrev others : Numbers → List X → List X
  others k xs = filter (λ x. not (is_alike k x)) xs

  -- the new elements are those of the rest
  new-others : (k : Numbers) (had rest : List Numbers) → ((n : Numbers) → list_any (bytes_eq n) had ≡ (bytes_eq n k || list_any (bytes_eq n) rest))
      → (xs : List X) → elements_with_new_keys key had xs ≡ elements_with_new_keys key rest (others k xs)
  new-others k had rest same [] = refl
  new-others k had rest same (x ∷ xs) = by (bytes_eq (key x) k) (list_any (bytes_eq (key x)) had) (same (key x))
      (new-others k had rest same xs)
      (new-others k (key x ∷ had) (key x ∷ rest) (λ n. ap (λ b. bytes_eq n (key x) || b) (same n) ∙ or-swap (bytes_eq n (key x)) (bytes_eq n k) (list_any (bytes_eq n) rest)) xs)
    where
      seen : elements_with_new_keys key had xs ≡ elements_with_new_keys key rest (others k xs) → elements_with_new_keys key (key x ∷ had) xs ≡ elements_with_new_keys key (key x ∷ rest) (others k xs) → (c b : Bool) → c ≡ b
          → cond c (elements_with_new_keys key had xs) (x ∷ elements_with_new_keys key (key x ∷ had) xs) ≡ cond b (elements_with_new_keys key rest (others k xs)) (x ∷ elements_with_new_keys key (key x ∷ rest) (others k xs))
      seen old new true true is = old
      seen old new false false is = ap (λ (zs : List X). x ∷ zs) new
      seen old new true false is = absurd (true≢false is)
      seen old new false true is = absurd (true≢false (sym is))

      by : (a c : Bool) → c ≡ (a || list_any (bytes_eq (key x)) rest) → elements_with_new_keys key had xs ≡ elements_with_new_keys key rest (others k xs) → elements_with_new_keys key (key x ∷ had) xs ≡ elements_with_new_keys key (key x ∷ rest) (others k xs)
          → cond c (elements_with_new_keys key had xs) (x ∷ elements_with_new_keys key (key x ∷ had) xs) ≡ elements_with_new_keys key rest (cond (not a) (x ∷ others k xs) (others k xs))
      by true true is old new = old
      by true false is old new = absurd (true≢false (sym is))
      by false c is old new = seen old new c (list_any (bytes_eq (key x)) rest) is

  -- a group does not depend on elements of another one
  alike-others : (k j : Numbers) → bytes_eq k j ≡ false → (xs : List X) → alike k xs ≡ alike k (others j xs)
  alike-others k j apart [] = refl
  alike-others k j apart (x ∷ xs) = by (bytes_eq (key x) k) (bytes_eq (key x) j) refl refl (alike-others k j apart xs)
    where
      by : (a b : Bool) → bytes_eq (key x) k ≡ a → bytes_eq (key x) j ≡ b → alike k xs ≡ alike k (others j xs)
          → cond a (x ∷ alike k xs) (alike k xs) ≡ alike k (cond (not b) (x ∷ others j xs) (others j xs))
      by true true one other rest = absurd (true≢false (sym (bytes_eq-itself k) ∙ ap (bytes_eq k) (sym (bytes_eq-same (key x) k one) ∙ bytes_eq-same (key x) j other) ∙ apart))
      by true false one other rest = ap (λ (zs : List X). x ∷ zs) rest ∙ sym (ap (λ b. cond b (x ∷ alike k (others j xs)) (alike k (others j xs))) one)
      by false true one other rest = rest
      by false false one other rest = rest ∙ sym (ap (λ b. cond b (x ∷ alike k (others j xs)) (alike k (others j xs))) one)

  -- elements that pass a test
  module _ {Z : Type 0} (p : X → Bool) (f g : X → Z) (same : (x : X) → p x ≡ true → f x ≡ g x) where
    passing-alike : (had : List Numbers) (xs : List X) → map f (elements_with_new_keys key had (filter p xs)) ≡ map g (elements_with_new_keys key had (filter p xs))
    passing-alike had [] = refl
    passing-alike had (x ∷ xs) = by (p x) refl (passing-alike had xs) (passing-alike (key x ∷ had) xs)
      where
        first : (b : Bool) → p x ≡ true → map f (elements_with_new_keys key had (filter p xs)) ≡ map g (elements_with_new_keys key had (filter p xs))
            → map f (elements_with_new_keys key (key x ∷ had) (filter p xs)) ≡ map g (elements_with_new_keys key (key x ∷ had) (filter p xs))
            → map f (cond b (elements_with_new_keys key had (filter p xs)) (x ∷ elements_with_new_keys key (key x ∷ had) (filter p xs)))
            ≡ map g (cond b (elements_with_new_keys key had (filter p xs)) (x ∷ elements_with_new_keys key (key x ∷ had) (filter p xs)))
        first true is old new = old
        first false is old new = ap₂ (λ (z : Z) (zs : List Z). z ∷ zs) (same x is) new

        by : (b : Bool) → p x ≡ b → map f (elements_with_new_keys key had (filter p xs)) ≡ map g (elements_with_new_keys key had (filter p xs))
            → map f (elements_with_new_keys key (key x ∷ had) (filter p xs)) ≡ map g (elements_with_new_keys key (key x ∷ had) (filter p xs))
            → map f (elements_with_new_keys key had (cond b (x ∷ filter p xs) (filter p xs))) ≡ map g (elements_with_new_keys key had (cond b (x ∷ filter p xs) (filter p xs)))
        by true is old new = first (list_any (bytes_eq (key x)) had) is old new
        by false is old new = old

  module _ (x : X) (xs : List X) where
    group-apart : (z : X) → not (is_alike (key x) z) ≡ true → with_equal_key key (x ∷ xs) z ≡ with_equal_key key (others (key x) xs) z
    group-apart z other = by (bytes_eq (key x) (key z)) refl
      where
        by : (b : Bool) → bytes_eq (key x) (key z) ≡ b → (let g : X × List X = (z, cond b (x ∷ alike (key z) xs) (alike (key z) xs)) in g) ≡ (z, alike (key z) (others (key x) xs))
        by true same =
            absurd (true≢false (sym other ∙ ap not (ap (bytes_eq (key z)) (bytes_eq-same (key x) (key z) same) ∙ bytes_eq-itself (key z))))
        by false differs = ap (λ (zs : List X). (z, zs)) (alike-others (key z) (key x) (not-true (is_alike (key x) z) other) xs)

    -- the groups of a list: that of the first element, and those of the rest
    groups-first : groups key (x ∷ xs) ≡ (x, x ∷ alike (key x) xs) ∷ groups key (others (key x) xs)
    groups-first =
        ap₂ (λ (g : X × List X) (gs : List (X × List X)). g ∷ gs)
        (ap (λ b. (x, cond b (x ∷ alike (key x) xs) (alike (key x) xs))) (bytes_eq-itself (key x)))
        (ap (map (with_equal_key key (x ∷ xs))) (new-others (key x) (key x ∷ []) [] (λ n. refl) xs)
        ∙ passing-alike (λ z. not (is_alike (key x) z)) (with_equal_key key (x ∷ xs)) (with_equal_key key (others (key x) xs)) group-apart [] xs)

  -- fewer elements
  others-short : (k : Numbers) (xs : List X) → length (others k xs) ≤ length xs
  others-short k [] = omega arith
  others-short k (x ∷ xs) = by (bytes_eq (key x) k) (others-short k xs)
    where
      by : (b : Bool) → length (others k xs) ≤ length xs → length (cond (not b) (x ∷ others k xs) (others k xs)) ≤ suc (length xs)
      by true short = omega arith
      by false short = omega arith

-- ---- the rows

module _ {X Y : Type 0} (key : X → Numbers) (key_of : Y → Numbers) (start : X → Y) (more : Y → X → Y) where
  abbrev rows : List Y → List X → List Y
  rows ys xs = and_more key key_of start more ys xs

  abbrev one : List Y → X → List Y
  one ys x = and_element key key_of start more ys x

  module _ (key-start : (x : X) → key_of (start x) ≡ key x) (key-more : (y : Y) (x : X) → key_of (more y x) ≡ key_of y) where
    abbrev pub row_of : X × List X → Y
    row_of g = fold more (start g.0) g.1

    -- a row depends on the elements with its key alone
    first-row : (y : Y) (ys : List Y) (xs : List X) → rows (y ∷ ys) xs ≡ fold more y (alike key (key_of y) xs) ∷ rows ys (others key (key_of y) xs)
    first-row y ys [] = refl
    first-row y ys (x ∷ xs) = by (bytes_eq (key x) (key_of y)) (first-row (more y x) ys xs) (first-row y (one ys x) xs)
      where
        by : (b : Bool) → rows (more y x ∷ ys) xs ≡ fold more (more y x) (alike key (key_of (more y x)) xs) ∷ rows ys (others key (key_of (more y x)) xs)
            → rows (y ∷ one ys x) xs ≡ fold more y (alike key (key_of y) xs) ∷ rows (one ys x) (others key (key_of y) xs)
            → rows (cond b (more y x ∷ ys) (y ∷ one ys x)) xs
            ≡ fold more y (cond b (x ∷ alike key (key_of y) xs) (alike key (key_of y) xs)) ∷ rows ys (cond (not b) (x ∷ others key (key_of y) xs) (others key (key_of y) xs))
        by true here there = here ∙ ap (λ k. fold more (more y x) (alike key k xs) ∷ rows ys (others key k xs)) (key-more y x)
        by false here there = there

    rows-within : (n : ℕ) (xs : List X) → length xs ≤ n → rows [] xs ≡ map row_of (groups key xs)
    rows-within n [] short = refl
    rows-within zero (x ∷ xs) short = absurd (omega arith)
    rows-within (suc n) (x ∷ xs) short =
        let y : Y = more (start x) x in
        let k : key_of y ≡ key x = key-more (start x) x ∙ key-start x in
        let fewer : length (others key (key x) xs) ≤ n = omega (arith, others-short key (key x) xs) in
        first-row y [] xs
        ∙ ap (λ k. fold more y (alike key k xs) ∷ rows [] (others key k xs)) k
        ∙ ap (λ (ys : List Y). fold more y (alike key (key x) xs) ∷ ys) (rows-within n (others key (key x) xs) fewer)
        ∙ sym (ap (map row_of) (groups-first key x xs))

    -- the rows of a list are those of its groups
    pub rows-of-groups : (xs : List X) → rows [] xs ≡ map row_of (groups key xs)
    rows-of-groups xs = rows-within (length xs) xs (omega arith)

  -- ---- one more element, at the place of its row

  module _ (x : X) where
    one-at : (ys : List Y) (k : ℕ) (d : Y) → k < length ys → is_row_of key key_of start more x (get_or ys k d) ≡ true
        → ((j : ℕ) → j < k → is_row_of key key_of start more x (get_or ys j d) ≡ false) → one ys x ≡ slice_set ys k (more (get_or ys k d) x)
    one-at [] k d within here before = absurd (omega arith)
    one-at (y ∷ ys) zero d within here before = ap (λ (b : Bool). cond b (more y x ∷ ys) (y ∷ one ys x)) here
    one-at (y ∷ ys) (suc k) d within here before =
        ap (λ (b : Bool). cond b (more y x ∷ ys) (y ∷ one ys x)) (before 0 (omega arith))
        ∙ ap (λ (zs : List Y). y ∷ zs) (one-at ys k d (omega arith) here (λ j below. before (suc j) (omega arith)))

    pub one-there : (ys : List Y) (k : ℕ) (d : Y) → row_at key key_of start more ys x ≡ Some k
        → (k < length ys) × (one ys x ≡ slice_set ys k (more (get_or ys k d) x))
    one-there ys k d is =
        let found = position-Some (is_row_of key key_of start more x) ys k d is in
        (found.0, one-at ys k d found.0 found.1 found.2)

    one-none : (ys : List Y) (n : ℕ) → position_from (is_row_of key key_of start more x) n ys ≡ None → one ys x ≡ ys ++ more (start x) x ∷ []
    one-none [] n none = refl
    one-none (y ∷ ys) n none = by (is_row_of key key_of start more x y) none (one-none ys (n + 1))
      where
        by : (b : Bool) → cond b (Some n) (position_from (is_row_of key key_of start more x) (n + 1) ys) ≡ None
            → (position_from (is_row_of key key_of start more x) (n + 1) ys ≡ None → one ys x ≡ ys ++ more (start x) x ∷ [])
            → cond b (more y x ∷ ys) (y ∷ one ys x) ≡ y ∷ (ys ++ more (start x) x ∷ [])
        by true is rest = absurd (cc)
        by false is rest = ap (λ (zs : List Y). y ∷ zs) (rest is)

    pub one-new : (ys : List Y) → row_at key key_of start more ys x ≡ None → one ys x ≡ ys ++ more (start x) x ∷ []
    one-new ys none = one-none ys 0 (sym (position_from-zero (is_row_of key key_of start more x) ys) ∙ none)
