-- Elements with new keys, after one more element.
use Rattle.std.proofs.Common.{◌≡◌, ◌∙◌, sym, ap, ap₂, Bool, true, false, cond, ◌||◌, if◌then◌else◌, bytes_eq, List, [], ◌∷◌, ◌++◌, filter, refl}
use Rattle.std.specs.List.{list_any}
use Rattle.std.proofs.lemmas.Bool.{or_parts}
use Rattle.pv_model.specs.Machine.{elements_with_new_keys, Numbers}
use Rattle.pv_laws_trees.proofs.DirectoryEntries.{bytes_eq-same, bytes_eq-itself}

pub swapped : (a b : Numbers) → bytes_eq a b ≡ bytes_eq b a
swapped a b = by (bytes_eq a b) refl (bytes_eq b a) refl
  where
    by : (x : Bool) → bytes_eq a b ≡ x → (y : Bool) → bytes_eq b a ≡ y → x ≡ y
    by true is true other = refl
    by false is false other = refl
    by true is false other = sym (ap (bytes_eq b) (bytes_eq-same a b is) ∙ bytes_eq-itself b) ∙ other
    by false is true other = sym is ∙ ap (bytes_eq a) (bytes_eq-same b a other) ∙ bytes_eq-itself a

module _ {X : Type 0} (key : X → Numbers) where
  -- whether an element has a key
  abbrev pub keyed : Numbers → List X → Bool
  keyed k xs = list_any (λ x. bytes_eq k (key x)) xs

  -- the keys of the elements are different
  abbrev pub AreApart : List X → Type 0
  AreApart [] = Unit {0}
  AreApart (x ∷ xs) = (keyed (key x) xs ≡ false) × AreApart xs

  -- elements with one more, unless its key is known
  abbrev pub unless_known : Bool → List X → X → List X
  unless_known known xs x = if known then xs else xs ++ x ∷ []

  firsts-from : (had : List Numbers) (xs : List X) (y : X)
      → elements_with_new_keys key had (xs ++ y ∷ []) ≡ unless_known (list_any (bytes_eq (key y)) had || keyed (key y) (elements_with_new_keys key had xs)) (elements_with_new_keys key had xs) y
  firsts-from had [] y = by (list_any (bytes_eq (key y)) had)
    where
      by : (b : Bool) → (if b then [] else y ∷ []) ≡ unless_known (b || false) [] y
      by true = refl
      by false = refl
  firsts-from had (x ∷ xs) y = by (list_any (bytes_eq (key x)) had) (firsts-from had xs y) (firsts-from (key x ∷ had) xs y)
    where
      rest : List X
      rest = elements_with_new_keys key (key x ∷ had) xs

      onto : (a b c : Bool) → x ∷ unless_known ((a || b) || c) rest y ≡ unless_known (b || (a || c)) (x ∷ rest) y
      onto true true c = refl
      onto true false c = refl
      onto false true c = refl
      onto false false true = refl
      onto false false false = refl

      by : (b : Bool) → elements_with_new_keys key had (xs ++ y ∷ []) ≡ unless_known (list_any (bytes_eq (key y)) had || keyed (key y) (elements_with_new_keys key had xs)) (elements_with_new_keys key had xs) y
          → elements_with_new_keys key (key x ∷ had) (xs ++ y ∷ []) ≡ unless_known (list_any (bytes_eq (key y)) (key x ∷ had) || keyed (key y) rest) rest y
          → (if b then elements_with_new_keys key had (xs ++ y ∷ []) else x ∷ elements_with_new_keys key (key x ∷ had) (xs ++ y ∷ []))
          ≡ unless_known (list_any (bytes_eq (key y)) had || keyed (key y) (if b then elements_with_new_keys key had xs else x ∷ rest)) (if b then elements_with_new_keys key had xs else x ∷ rest) y
      by true was now = was
      by false was now = ap (λ (ys : List X). x ∷ ys) now ∙ onto (bytes_eq (key y) (key x)) (list_any (bytes_eq (key y)) had) (keyed (key y) rest)

  -- the elements with new keys, after one more
  pub firsts-more : (xs : List X) (y : X) → elements_with_new_keys key [] (xs ++ y ∷ []) ≡ unless_known (keyed (key y) (elements_with_new_keys key [] xs)) (elements_with_new_keys key [] xs) y
  firsts-more xs y = firsts-from [] xs y

  -- a known key is not new
  firsts-known : (k : Numbers) (had : List Numbers) → list_any (bytes_eq k) had ≡ true → (xs : List X) → keyed k (elements_with_new_keys key had xs) ≡ false
  firsts-known k had known [] = refl
  firsts-known k had known (x ∷ xs) =
      by (list_any (bytes_eq (key x)) had) refl (firsts-known k had known xs) (firsts-known k (key x ∷ had) (either (bytes_eq k (key x)) (list_any (bytes_eq k) had) known) xs)
    where
      either : (a b : Bool) → b ≡ true → (a || b) ≡ true
      either true b is = refl
      either false b is = is

      apart : (c : Bool) → bytes_eq k (key x) ≡ c → list_any (bytes_eq (key x)) had ≡ false → c ≡ false
      apart true same new = sym known ∙ ap (λ j. list_any (bytes_eq j) had) (bytes_eq-same k (key x) same) ∙ new
      apart false other new = refl

      by : (b : Bool) → list_any (bytes_eq (key x)) had ≡ b → keyed k (elements_with_new_keys key had xs) ≡ false → keyed k (elements_with_new_keys key (key x ∷ had) xs) ≡ false
          → keyed k (if b then elements_with_new_keys key had xs else x ∷ elements_with_new_keys key (key x ∷ had) xs) ≡ false
      by true is was now = was
      by false is was now = ap₂ (λ a b. a || b) (apart (bytes_eq k (key x)) refl is) now

  apart-from : (had : List Numbers) (xs : List X) → AreApart (elements_with_new_keys key had xs)
  apart-from had [] = tt
  apart-from had (x ∷ xs) = by (list_any (bytes_eq (key x)) had) (apart-from had xs) (apart-from (key x ∷ had) xs)
    where
      by : (b : Bool) → AreApart (elements_with_new_keys key had xs) → AreApart (elements_with_new_keys key (key x ∷ had) xs) → AreApart (if b then elements_with_new_keys key had xs else x ∷ elements_with_new_keys key (key x ∷ had) xs)
      by true was now = was
      by false was now = (firsts-known (key x) (key x ∷ had) (ap (λ b. b || list_any (bytes_eq (key x)) had) (bytes_eq-itself (key x))) xs, now)

  pub firsts-apart : (xs : List X) → AreApart (elements_with_new_keys key [] xs)
  firsts-apart xs = apart-from [] xs

  -- an element whose key no first element has differs from each
  none-from : (y : X) (had : List Numbers) → list_any (bytes_eq (key y)) had ≡ false → (xs : List X) → keyed (key y) (elements_with_new_keys key had xs) ≡ false → filter (λ x. bytes_eq (key x) (key y)) xs ≡ []
  none-from y had new [] none = refl
  none-from y had new (x ∷ xs) none =
      by (list_any (bytes_eq (key x)) had) refl (none-from y had new xs) (λ other. none-from y (key x ∷ had) (ap₂ (λ a b. a || b) other new) xs) none
    where
      skipped : bytes_eq (key x) (key y) ≡ false → filter (λ z. bytes_eq (key z) (key y)) xs ≡ [] → filter (λ z. bytes_eq (key z) (key y)) (x ∷ xs) ≡ []
      skipped other rest = ap (λ b. cond b (x ∷ filter (λ z. bytes_eq (key z) (key y)) xs) (filter (λ z. bytes_eq (key z) (key y)) xs)) other ∙ rest

      apart : (c : Bool) → bytes_eq (key x) (key y) ≡ c → list_any (bytes_eq (key x)) had ≡ true → c ≡ false
      apart true same known = sym known ∙ ap (λ j. list_any (bytes_eq j) had) (bytes_eq-same (key x) (key y) same) ∙ new
      apart false other known = refl

      by : (b : Bool) → list_any (bytes_eq (key x)) had ≡ b
          → (keyed (key y) (elements_with_new_keys key had xs) ≡ false → filter (λ z. bytes_eq (key z) (key y)) xs ≡ [])
          → (bytes_eq (key y) (key x) ≡ false → keyed (key y) (elements_with_new_keys key (key x ∷ had) xs) ≡ false → filter (λ z. bytes_eq (key z) (key y)) xs ≡ [])
          → keyed (key y) (if b then elements_with_new_keys key had xs else x ∷ elements_with_new_keys key (key x ∷ had) xs) ≡ false
          → filter (λ z. bytes_eq (key z) (key y)) (x ∷ xs) ≡ []
      by true is was now none = skipped (apart (bytes_eq (key x) (key y)) refl is) (was none)
      by false is was now none =
          let parts = or_parts (bytes_eq (key y) (key x)) (keyed (key y) (elements_with_new_keys key (key x ∷ had) xs)) none in
          skipped (swapped (key x) (key y) ∙ parts.0) (now parts.0 parts.1)

  pub none-alike : (y : X) (xs : List X) → keyed (key y) (elements_with_new_keys key [] xs) ≡ false → filter (λ x. bytes_eq (key x) (key y)) xs ≡ []
  none-alike y xs none = none-from y [] refl xs none
