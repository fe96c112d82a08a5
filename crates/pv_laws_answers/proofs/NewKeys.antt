-- The elements of a list whose key equals no earlier key.
use Rattle.std.proofs.Common.{◌≡◌, ◌≢◌, ◌∙◌, sym, ap, subst, Bool, true, false, if◌then◌else◌, bytes_eq, List, [], ◌∷◌, ◌⊎◌, inl, inr, refl}
use Rattle.std.specs.List.{list_any}
use Rattle.pv_model.specs.Machine.{elements_with_new_keys, Numbers}
use Rattle.pv_laws_trees.proofs.DirectoryEntries.{bytes_eq-same, bytes_eq-itself}
use Rattle.pv_laws_answers.specs.Witnesses.{EachToLater}
use Rattle.pv_laws_answers.proofs.Lists.{Among, each-among, each-from_among, among-any, none-among}

module _ {X : Type 0} (key : X → Numbers) where
  -- a new element, by cases
  new-cases : (had : List Numbers) (x : X) (xs : List X) (P : List X → Type 0)
      → (Among (key x) had → P (elements_with_new_keys key had xs)) → (((h : Numbers) → Among h had → key x ≢ h) → P (x ∷ elements_with_new_keys key (key x ∷ had) xs)) → P (elements_with_new_keys key had (x ∷ xs))
  new-cases had x xs P old new = by (list_any (bytes_eq (key x)) had) refl
    where
      by : (b : Bool) → list_any (bytes_eq (key x)) had ≡ b → P (if b then elements_with_new_keys key had xs else x ∷ elements_with_new_keys key (key x ∷ had) xs)
      by true is = let there = among-any (bytes_eq (key x)) had is in old (subst (λ (k : Numbers). Among k had) (sym (bytes_eq-same (key x) there.0 there.2)) there.1)
      by false is = new (λ h in' same.
          let yes : bytes_eq (key x) h ≡ true = ap (bytes_eq (key x)) (sym same) ∙ bytes_eq-itself (key x) in
          let no : bytes_eq (key x) h ≡ false = none-among (bytes_eq (key x)) had is h in' in
          absurd (cc))

  -- each kept element is from the list
  pub new-came : (had : List Numbers) (xs : List X) (y : X) → Among y (elements_with_new_keys key had xs) → Among y xs
  new-came had [] y = λ h. h
  new-came had (x ∷ xs) y =
      let old = new-came had xs y in
      let new = new-came (key x ∷ had) xs y in
      new-cases had x xs (λ ys. Among y ys → Among y (x ∷ xs)) (λ _ h. inr (old h)) (λ _ h. here new h)
    where
      here : (Among y (elements_with_new_keys key (key x ∷ had) xs) → Among y xs) → Among y (x ∷ elements_with_new_keys key (key x ∷ had) xs) → Among y (x ∷ xs)
      here new (inl e) = inl e
      here new (inr h) = inr (new h)

  -- the key of each kept element is not among the given keys
  pub new-fresh : (had : List Numbers) (xs : List X) (y : X) → Among y (elements_with_new_keys key had xs) → (h : Numbers) → Among h had → key y ≢ h
  new-fresh had [] y = λ within. absurd within
  new-fresh had (x ∷ xs) y =
      let old = new-fresh had xs y in
      let new = new-fresh (key x ∷ had) xs y in
      new-cases had x xs (λ ys. Among y ys → (h : Numbers) → Among h had → key y ≢ h) (λ _ h. old h) (λ fresh h. here fresh new h)
    where
      here : ((h : Numbers) → Among h had → key x ≢ h) → (Among y (elements_with_new_keys key (key x ∷ had) xs) → (h : Numbers) → Among h (key x ∷ had) → key y ≢ h)
          → Among y (x ∷ elements_with_new_keys key (key x ∷ had) xs) → (h : Numbers) → Among h had → key y ≢ h
      here fresh new (inl e) h in' = subst (λ (z : X). key z ≢ h) (sym e) (fresh h in')
      here fresh new (inr k) h in' = new k h (inr in')

  -- each element of the list has a kept element with the same key
  pub new-like : (had : List Numbers) (xs : List X) (x : X) → Among x xs → Among (key x) had ⊎ ((y : X) × Among y (elements_with_new_keys key had xs) × (key y ≡ key x))
  new-like had [] x h = absurd h
  new-like had (z ∷ zs) x h =
      let old = new-like had zs x in
      let new = new-like (key z ∷ had) zs x in
      new-cases had z zs (λ ys. Among (key x) had ⊎ ((y : X) × Among y ys × (key y ≡ key x))) (λ there. was there old h) (λ _. is new h)
    where
      was : Among (key z) had → (Among x zs → Among (key x) had ⊎ ((y : X) × Among y (elements_with_new_keys key had zs) × (key y ≡ key x))) → Among x (z ∷ zs)
          → Among (key x) had ⊎ ((y : X) × Among y (elements_with_new_keys key had zs) × (key y ≡ key x))
      was there old (inl e) = inl (subst (λ (w : X). Among (key w) had) (sym e) there)
      was there old (inr k) = old k

      onto : Among (key x) (key z ∷ had) ⊎ ((y : X) × Among y (elements_with_new_keys key (key z ∷ had) zs) × (key y ≡ key x))
          → Among (key x) had ⊎ ((y : X) × Among y (z ∷ elements_with_new_keys key (key z ∷ had) zs) × (key y ≡ key x))
      onto (inl (inl e)) = inr (z, inl refl, sym e)
      onto (inl (inr k)) = inl k
      onto (inr k) = inr (k.0, inr k.1, k.2)

      is : (Among x zs → Among (key x) (key z ∷ had) ⊎ ((y : X) × Among y (elements_with_new_keys key (key z ∷ had) zs) × (key y ≡ key x))) → Among x (z ∷ zs)
          → Among (key x) had ⊎ ((y : X) × Among y (z ∷ elements_with_new_keys key (key z ∷ had) zs) × (key y ≡ key x))
      is new (inl e) = inr (z, inl refl, ap key (sym e))
      is new (inr k) = onto (new k)

  -- the kept elements have different keys
  pub new-differ : (had : List Numbers) (xs : List X) → EachToLater (λ x y. key x ≢ key y) (elements_with_new_keys key had xs)
  new-differ had [] = tt
  new-differ had (x ∷ xs) =
      let old = new-differ had xs in
      let new = new-differ (key x ∷ had) xs in
      new-cases had x xs (EachToLater (λ x y. key x ≢ key y)) (λ _. old)
      (λ _. (each-from_among (λ y. key x ≢ key y) (elements_with_new_keys key (key x ∷ had) xs) (λ y h e. new-fresh (key x ∷ had) xs y h (key x) (inl refl) (sym e)), new))

  module _ (R : X → X → Type 0) where
    -- the kept elements are in the order of the list
    pub new-order : (had : List Numbers) (xs : List X) → EachToLater R xs → EachToLater R (elements_with_new_keys key had xs)
    new-order had [] r = tt
    new-order had (x ∷ xs) r =
        let old = new-order had xs r.1 in
        let new = new-order (key x ∷ had) xs r.1 in
        new-cases had x xs (EachToLater R) (λ _. old)
        (λ _. (each-from_among (R x) (elements_with_new_keys key (key x ∷ had) xs) (λ y h. each-among (R x) xs r.0 y (new-came (key x ∷ had) xs y h)), new))

    -- each kept element is the first with its key
    pub new-first : (had : List Numbers) (xs : List X) → EachToLater R xs → (y : X) → Among y (elements_with_new_keys key had xs) → (x : X) → Among x xs → key x ≡ key y → (y ≡ x) ⊎ R y x
    new-first had [] r y h x k e = absurd h
    new-first had (z ∷ zs) r y h x k e =
        let old = new-first had zs r.1 y in
        let new = new-first (key z ∷ had) zs r.1 y in
        new-cases had z zs (λ ys. Among y ys → (y ≡ x) ⊎ R y x)
        (λ there h. was h (λ h k. old h x k e) there k) (λ _ h. is h (λ h k. new h x k e) k) h
      where
        was : Among y (elements_with_new_keys key had zs) → (Among y (elements_with_new_keys key had zs) → Among x zs → (y ≡ x) ⊎ R y x) → Among (key z) had → Among x (z ∷ zs) → (y ≡ x) ⊎ R y x
        was h old there (inl same) = absurd (new-fresh had zs y h (key z) there (sym e ∙ ap key same))
        was h old there (inr k) = old h k

        is : Among y (z ∷ elements_with_new_keys key (key z ∷ had) zs) → (Among y (elements_with_new_keys key (key z ∷ had) zs) → Among x zs → (y ≡ x) ⊎ R y x) → Among x (z ∷ zs) → (y ≡ x) ⊎ R y x
        is (inl here) new (inl same) = inl (here ∙ sym same)
        is (inl here) new (inr k) = inr (subst (λ (w : X). R w x) (sym here) (each-among (R z) zs r.0 x k))
        is (inr h) new (inl same) = absurd (new-fresh (key z ∷ had) zs y h (key z) (inl refl) (sym e ∙ ap key same))
        is (inr h) new (inr k) = new h k
