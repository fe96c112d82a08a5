-- Lists in which no element is greater than a later one, by a size.
use Rattle.std.proofs.Common.{◌≡◌, sym, ap, ℕ, ◌≤◌, Bool, true, false, List, [], ◌∷◌, flat_map, filter, cond, Some, inl, inr, arith}
use Rattle.pv_model.specs.Machine.{first_of}
use Rattle.pv_laws_answers.specs.Witnesses.{EachToLater}
use Rattle.pv_laws_answers.proofs.Lists.{Among, each-among, each-from_among, filter-among}
use Rattle.pv_laws_answers.proofs.WitnessOrders.{to_later-all, to_later-flat}

abbrev pub IsRising : {X : Type 0} → (X → ℕ) → List X → Type 0
IsRising size xs = EachToLater (λ x y. size x ≤ size y) xs

-- lists of elements that are as great as those of a rising list
pub rising-flat : {X Y : Type 0} (size : X → ℕ) (own : Y → ℕ) (f : X → List Y) (xs : List X) → IsRising size xs
    → ((x : X) → Among x xs → (y : Y) → Among y (f x) → own y ≡ size x) → IsRising own (flat_map f xs)
rising-flat size own f xs rising same =
    to_later-flat (λ y z. own y ≤ own z) (λ x w. size x ≤ size w) f xs rising
    (λ x h. to_later-all (λ y z. own y ≤ own z) (f x) (λ y z k l. omega (arith, same x h y k, same x h z l)))
    (λ x w h k le y z l m. omega (arith, le, same x h y l, same w k z m))

pub rising-filter : {X : Type 0} (size : X → ℕ) (test : X → Bool) (xs : List X) → IsRising size xs → IsRising size (filter test xs)
rising-filter size test [] rising = tt
rising-filter {X} size test (x ∷ xs) rising = by (test x) (rising-filter size test xs rising.1)
  where
    by : (b : Bool) → IsRising size (filter test xs) → IsRising size (cond b (x ∷ filter test xs) (filter test xs))
    by true rest =
        (each-from_among (λ y. size x ≤ size y) (filter test xs) (λ y h. each-among (λ z. size x ≤ size z) xs rising.0 y (filter-among test y xs h).0), rest)
    by false rest = rest

-- the first element is in the list, and no other one is less
pub first-in : {X : Type 0} (xs : List X) (x : X) → first_of xs ≡ Some x → Among x xs
first-in [] x is = cc is
first-in (y ∷ ys) x is = let same : y ≡ x = cc is in inl (sym same)

pub first-smallest : {X : Type 0} (size : X → ℕ) (xs : List X) (x y : X) → IsRising size xs → first_of xs ≡ Some x → Among y xs → size x ≤ size y
first-smallest size [] x y rising is h = absurd h
first-smallest size (z ∷ zs) x y rising is (inl e) = let same : z ≡ x = cc is in omega (arith, ap size same, ap size e)
first-smallest size (z ∷ zs) x y rising is (inr h) =
    let same : z ≡ x = cc is in omega (arith, ap size same, each-among (λ w. size z ≤ size w) zs rising.0 y h)
