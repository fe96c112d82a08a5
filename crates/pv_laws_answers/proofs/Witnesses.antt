-- The order of witnesses.
use Rattle.std.proofs.Common.{◌∙◌, sym, ap, subst, ℕ, ◌<◌, List, [], ◌∷◌, ◌++◌, inl, inr, refl, length-append, arith}
use Rattle.pv_laws_answers.specs.Witnesses.{IsSmallerWitness, IsEarlierWitness, IsNoLaterWitness}

less-then : (a b c : List ℕ) → IsSmallerWitness a b → IsSmallerWitness b c → IsSmallerWitness a c
less-then [] b c h k = absurd h
less-then (x ∷ xs) [] c h k = absurd h
less-then (x ∷ xs) (y ∷ ys) [] h k = absurd k
less-then (x ∷ xs) (y ∷ ys) (z ∷ zs) (inl p) (inl q) = inl (omega arith)
less-then (x ∷ xs) (y ∷ ys) (z ∷ zs) (inl p) (inr q) = inl (let e = q.0 in omega arith)
less-then (x ∷ xs) (y ∷ ys) (z ∷ zs) (inr p) (inl q) = inl (let e = p.0 in omega arith)
less-then (x ∷ xs) (y ∷ ys) (z ∷ zs) (inr p) (inr q) = inr (p.0 ∙ q.0, less-then xs ys zs p.1 q.1)

pub before-then : (a b c : List ℕ) → IsEarlierWitness a b → IsEarlierWitness b c → IsEarlierWitness a c
before-then a b c (inl p) (inl q) = inl (omega arith)
before-then a b c (inl p) (inr q) = inl (let e = q.0 in omega arith)
before-then a b c (inr p) (inl q) = inl (let e = p.0 in omega arith)
before-then a b c (inr p) (inr q) = inr (p.0 ∙ q.0, less-then a b c p.1 q.1)

pub no_later-then : (a b c : List ℕ) → IsNoLaterWitness a b → IsNoLaterWitness b c → IsNoLaterWitness a c
no_later-then a b c (inl p) k = subst (λ (w : List ℕ). IsNoLaterWitness w c) (sym p) k
no_later-then a b c (inr p) (inl q) = inr (subst (λ (w : List ℕ). IsEarlierWitness a w) q p)
no_later-then a b c (inr p) (inr q) = inr (before-then a b c p q)

module _ (q p : ℕ) where
  less-one_more : (w v : List ℕ) → IsSmallerWitness w v → IsSmallerWitness (w ++ q ∷ []) (v ++ p ∷ [])
  less-one_more [] v h = absurd h
  less-one_more (x ∷ xs) [] h = absurd h
  less-one_more (x ∷ xs) (y ∷ ys) (inl h) = inl h
  less-one_more (x ∷ xs) (y ∷ ys) (inr h) = inr (h.0, less-one_more xs ys h.1)

  -- extending both witnesses by one step preserves their order
  pub before-one_more : (w v : List ℕ) → IsEarlierWitness w v → IsEarlierWitness (w ++ q ∷ []) (v ++ p ∷ [])
  before-one_more w v (inl h) = inl (omega (arith, length-append w (q ∷ []), length-append v (p ∷ [])))
  before-one_more w v (inr h) = let e = h.0 in inr (omega (arith, length-append w (q ∷ []), length-append v (p ∷ [])), less-one_more w v h.1)

  less-last : q < p → (w : List ℕ) → IsSmallerWitness (w ++ q ∷ []) (w ++ p ∷ [])
  less-last h [] = inl h
  less-last h (x ∷ xs) = inr (refl, less-last h xs)

  -- a lesser last step
  pub before-last : q < p → (w : List ℕ) → IsEarlierWitness (w ++ q ∷ []) (w ++ p ∷ [])
  before-last h w = inr (omega (arith, length-append w (q ∷ []), length-append w (p ∷ [])), less-last h w)

pub before-longer : (w : List ℕ) (p : ℕ) → IsEarlierWitness w (w ++ p ∷ [])
before-longer w p = inl (omega (arith, length-append w (p ∷ [])))

pub no_later-same_step : (w v : List ℕ) (p : ℕ) → IsNoLaterWitness w v → IsNoLaterWitness (w ++ p ∷ []) (v ++ p ∷ [])
no_later-same_step w v p (inl e) = inl (ap (λ x. x ++ p ∷ []) e)
no_later-same_step w v p (inr h) = inr (before-one_more p p w v h)
