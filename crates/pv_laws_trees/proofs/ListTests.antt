-- Lemmas on tests, optional values and lists of any type.
use Rattle.std.proofs.Common.{◌≡◌, suc, ◌≤◌, Bool, true, false, cond, ◌&&◌, List, [], ◌∷◌, ◌++◌, filter, flat_map, length, Option, None, Some, is_some, refl, ap₂, arith, ℕ, zero, slice_get, subst}
use Rattle.std.specs.List.{AllByRecursion}

-- a test that implies another
pub implied : (a b : Bool) → (a ≡ true → b ≡ true) → (a && b) ≡ a
implied true b is = is refl
implied false b is = refl

pub not-there : {X : Type 0} (o : Option X) → is_some o ≡ false → o ≡ None
not-there None is = refl
not-there (Some x) is = cc

-- a filtered list is not longer
pub filter-fewer : {X : Type 0} (p : X → Bool) (xs : List X) → length (filter p xs) ≤ length xs
filter-fewer p [] = omega arith
filter-fewer p (x ∷ xs) =
    elim (p x) as (λ b. length (cond b (x ∷ filter p xs) (filter p xs)) ≤ suc (length xs)) [ true ↦ omega (arith, filter-fewer p xs) | false ↦ omega (arith, filter-fewer p xs) ]

pub flat-same : {X Y : Type 0} (f g : X → List Y) → ((x : X) → f x ≡ g x) → (xs : List X) → flat_map f xs ≡ flat_map g xs
flat-same f g same [] = refl
flat-same {Y = Y} f g same (x ∷ xs) = ap₂ (λ (a b : List Y). a ++ b) (same x) (flat-same f g same xs)

pub all-at : {X : Type 0} (P : X → Type 0) (xs : List X) (k : ℕ) (x : X) → AllByRecursion P xs → slice_get xs k ≡ Some x → P x
all-at P [] k x all at = cc
all-at P (y ∷ ys) zero x all at = let same : y ≡ x = cc in subst P same all.0
all-at P (y ∷ ys) (suc k) x all at = all-at P ys k x all.1 at
