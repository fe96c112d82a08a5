-- Lists in an order, and the order of witnesses.
use Rattle.std.proofs.Common.{◌≡◌, ◌≢◌, sym, ap, subst, ℕ, suc, ◌≤◌, List, [], ◌∷◌, ◌++◌, length, length-append, flat_map, ◌⊎◌, inl, inr, refl, arith, zero-le}
use Rattle.std.specs.List.{AllByRecursion}
use Rattle.pv_model.specs.Machine.{Found, Move}
use Rattle.pv_laws_answers.specs.Witnesses.{IsEarlierWitness, IsNoLaterWitness, EachToLater}
use Rattle.pv_laws_answers.proofs.Lists.{Among, among-left, among-right, among-either, each-among, each-from_among, each-append, flat-among}
use Rattle.pv_laws_answers.proofs.MarkedLists.{among-between}
use Rattle.pv_laws_answers.proofs.SearchInvariant.{Ascending}
use Rattle.pv_laws_answers.proofs.Witnesses.{before-one_more, before-last}

-- ---- a relation from each element to each later one

pub to_later-append : {X : Type 0} (R : X → X → Type 0) (xs ys : List X) → EachToLater R xs → EachToLater R ys → ((x : X) → Among x xs → (y : X) → Among y ys → R x y) → EachToLater R (xs ++ ys)
to_later-append R [] ys a b c = b
to_later-append R (x ∷ xs) ys a b c =
    (each-append (R x) xs ys a.0 (each-from_among (R x) ys (λ y h. c x (inl refl) y h)), to_later-append R xs ys a.1 b (λ z h. c z (inr h)))

pub to_later-weaker : {X : Type 0} (R Q : X → X → Type 0) (xs : List X) → ((x y : X) → Among x xs → Among y xs → R x y → Q x y) → EachToLater R xs → EachToLater Q xs
to_later-weaker R Q [] f a = tt
to_later-weaker R Q (x ∷ xs) f a =
    (each-from_among (Q x) xs (λ y h. f x y (inl refl) (inr h) (each-among (R x) xs a.0 y h)), to_later-weaker R Q xs (λ y z h k. f y z (inr h) (inr k)) a.1)

-- lists in an order, for elements in an order
pub to_later-flat : {X Y : Type 0} (R : X → X → Type 0) (Q : Y → Y → Type 0) (f : Y → List X) (ys : List Y) → EachToLater Q ys → ((y : Y) → Among y ys → EachToLater R (f y))
    → ((y z : Y) → Among y ys → Among z ys → Q y z → (x w : X) → Among x (f y) → Among w (f z) → R x w) → EachToLater R (flat_map f ys)
to_later-flat R Q f [] order own between = tt
to_later-flat R Q f (y ∷ ys) order own between =
    to_later-append R (f y) (flat_map f ys) (own y (inl refl))
    (to_later-flat R Q f ys order.1 (λ z h. own z (inr h)) (λ z u h k. between z u (inr h) (inr k)))
    (λ x h w k. let from = flat-among f w ys k in between y from.0 (inl refl) (inr from.1) (each-among (Q y) ys order.0 from.0 from.1) x w h from.2)

pub to_later-all : {X : Type 0} (R : X → X → Type 0) (xs : List X) → ((x y : X) → Among x xs → Among y xs → R x y) → EachToLater R xs
to_later-all R [] all = tt
to_later-all R (x ∷ xs) all = (each-from_among (R x) xs (λ y h. all x y (inl refl) (inr h)), to_later-all R xs (λ y z h k. all y z (inr h) (inr k)))

-- a list of different elements is no longer than a list that has an image of each, if different elements have different
-- images
pub no-longer : {X Y : Type 0} (Q : X → Y → Type 0) (xs : List X) (ys : List Y) → ((x : X) → Among x xs → (y : Y) × Among y ys × Q x y)
    → EachToLater (λ x z. (y : Y) → Q x y → Q z y → ⊥) xs → length xs ≤ length ys
no-longer Q [] ys images apart = zero-le
no-longer {X} {Y} Q (x ∷ xs) ys images apart =
    let first = images x (inl refl) in
    let parts = among-between first.0 ys first.1 in
    let rest = no-longer Q xs (parts.0 ++ parts.1)
    (λ z h.
    let own = images z (inr h) in
    (own.0, other first.0 parts.0 parts.1 own.0 (λ same. each-among (λ z. (y : Y) → Q x y → Q z y → ⊥) xs apart.0 z h first.0 first.2 (subst (Q z) same own.2)) (subst (Among own.0) parts.2 own.1), own.2))
    apart.1 in
    let all = ap length parts.2 in omega (arith, rest, all, length-append parts.0 parts.1, length-append parts.0 (first.0 ∷ parts.1))
  where
    other : (y : Y) (before after : List Y) (z : Y) → z ≢ y → Among z (before ++ y ∷ after) → Among z (before ++ after)
    other y before after z apart h = by (among-either z before (y ∷ after) h)
      where
        by : Among z before ⊎ Among z (y ∷ after) → Among z (before ++ after)
        by (inl k) = among-left z before after k
        by (inr (inl e)) = absurd (apart e)
        by (inr (inr k)) = among-right z before after k

-- ---- witnesses

-- a witness that is no later is no longer
pub no_later-longer : (w v : List ℕ) → IsNoLaterWitness w v → length w ≤ length v
no_later-longer w v (inl e) = omega (arith, ap length e)
no_later-longer w v (inr (inl h)) = omega (arith, h)
no_later-longer w v (inr (inr h)) = omega (arith, h.0)

-- ---- the steps of a search are in the order of their witnesses

abbrev pub Earlier : Move → Move → Type 0
Earlier m n = IsEarlierWitness m.witness n.witness

ascending-from : (w : List ℕ) (low : ℕ) (ms : List Move) → Ascending w low ms → (m : Move) → Among m ms → (m.witness ≡ w ++ m.pid ∷ []) × (low ≤ m.pid)
ascending-from w low [] a m h = absurd h
ascending-from w low (n ∷ ms) a m (inl e) = subst (λ (k : Move). (k.witness ≡ w ++ k.pid ∷ []) × (low ≤ k.pid)) (sym e) (a.0, a.1)
ascending-from w low (n ∷ ms) a m (inr h) = let r = ascending-from w (suc n.pid) ms a.2 m h in (r.0, omega (arith, r.1, a.1))

ascending-earlier : (w : List ℕ) (low : ℕ) (ms : List Move) → Ascending w low ms → EachToLater Earlier ms
ascending-earlier w low [] a = tt
ascending-earlier w low (m ∷ ms) a = (
  each-from_among (Earlier m) ms (λ n h.
      let r = ascending-from w (suc m.pid) ms a.2 n h in
      subst (λ (v : List ℕ). IsEarlierWitness v n.witness) (sym a.0) (subst (λ (v : List ℕ). IsEarlierWitness (w ++ m.pid ∷ []) v) (sym r.0) (before-last m.pid n.pid r.1 w))),
  ascending-earlier w (suc m.pid) ms a.2,
)

pub moves-earlier : (moves : Found → List Move) (fs : List Found) → AllByRecursion (λ f. Ascending f.witness 0 (moves f)) fs → EachToLater (λ f g. IsEarlierWitness f.witness g.witness) fs → EachToLater Earlier (flat_map moves fs)
moves-earlier moves [] a r = tt
moves-earlier moves (f ∷ fs) a r =
    to_later-append Earlier (moves f) (flat_map moves fs) (ascending-earlier f.witness 0 (moves f) a.0) (moves-earlier moves fs a.1 r.1)
    (λ m h n k.
    let from = flat-among moves n fs k in
    let here = ascending-from f.witness 0 (moves f) a.0 m h in
    let there = ascending-from from.0.witness 0 (moves from.0) (each-among (λ g. Ascending g.witness 0 (moves g)) fs a.1 from.0 from.1) n from.2 in
    let before = each-among (λ g. IsEarlierWitness f.witness g.witness) fs r.0 from.0 from.1 in
    subst (λ (v : List ℕ). IsEarlierWitness v n.witness) (sym here.0)
    (subst (λ (v : List ℕ). IsEarlierWitness (f.witness ++ m.pid ∷ []) v) (sym there.0) (before-one_more m.pid n.pid f.witness from.0.witness before)))
