-- Membership in lists, and properties of all elements.
use Rattle.std.proofs.Common.{◌≡◌, ◌∙◌, sym, ap, subst, Bool, true, false, ◌||◌, ◌&&◌, List, [], ◌∷◌, ◌++◌, map, flat_map, filter, cond, length, slice_get, None, Some, ◌⊎◌, inl, inr, refl, Option}
use Rattle.std.specs.List.{AllByRecursion, list_any, list_all, cons_option, filter_map}

module _ {X : Type 0} where
  abbrev pub Among : X → List X → Type 0
  Among x [] = ⊥
  Among x (y ∷ ys) = (x ≡ y) ⊎ Among x ys

  pub among-left : (x : X) (xs ys : List X) → Among x xs → Among x (xs ++ ys)
  among-left x [] ys h = absurd h
  among-left x (y ∷ xs) ys (inl h) = inl h
  among-left x (y ∷ xs) ys (inr h) = inr (among-left x xs ys h)

  pub among-right : (x : X) (xs ys : List X) → Among x ys → Among x (xs ++ ys)
  among-right x [] ys h = h
  among-right x (y ∷ xs) ys h = inr (among-right x xs ys h)

  module _ (P : X → Type 0) where
    pub each-among : (xs : List X) → AllByRecursion P xs → (x : X) → Among x xs → P x
    each-among [] all x h = absurd h
    each-among (y ∷ ys) all x (inl h) = subst P (sym h) all.0
    each-among (y ∷ ys) all x (inr h) = each-among ys all.1 x h

    pub each-from_among : (xs : List X) → ((x : X) → Among x xs → P x) → AllByRecursion P xs
    each-from_among [] h = tt
    each-from_among (y ∷ ys) h = (h y (inl refl), each-from_among ys (λ x k. h x (inr k)))

    pub each-append : (xs ys : List X) → AllByRecursion P xs → AllByRecursion P ys → AllByRecursion P (xs ++ ys)
    each-append [] ys a b = b
    each-append (x ∷ xs) ys a b = (a.0, each-append xs ys a.1 b)

  pub each-weaker : (P Q : X → Type 0) → ((x : X) → P x → Q x) → (xs : List X) → AllByRecursion P xs → AllByRecursion Q xs
  each-weaker P Q f [] a = tt
  each-weaker P Q f (x ∷ xs) a = (f x a.0, each-weaker P Q f xs a.1)

  module _ (p : X → Bool) where
    pub among-any : (xs : List X) → list_any p xs ≡ true → (x : X) × Among x xs × (p x ≡ true)
    among-any [] h = absurd (nothing h)
      where
        nothing : false ≡ true → ⊥
        nothing e = cc
    among-any (y ∷ ys) h = by (among-any ys) (p y) refl h
      where
        by : (list_any p ys ≡ true → (x : X) × Among x ys × (p x ≡ true)) → (b : Bool) → p y ≡ b → (b || list_any p ys) ≡ true → (x : X) × Among x (y ∷ ys) × (p x ≡ true)
        by rest true is h = (y, inl refl, is)
        by rest false is h = let r = rest h in (r.0, inr r.1, r.2)

    pub any-among : (x : X) (xs : List X) → Among x xs → p x ≡ true → list_any p xs ≡ true
    any-among x [] h is = absurd h
    any-among x (y ∷ ys) (inl h) is = ap (λ b. b || list_any p ys) (ap p (sym h) ∙ is)
    any-among x (y ∷ ys) (inr h) is = by (any-among x ys h is) (p y)
      where
        by : list_any p ys ≡ true → (b : Bool) → (b || list_any p ys) ≡ true
        by rest true = refl
        by rest false = rest

    pub none-among : (xs : List X) → list_any p xs ≡ false → (x : X) → Among x xs → p x ≡ false
    none-among [] none x h = absurd h
    none-among (y ∷ ys) none x h = by (λ k. none-among ys k x) (p y) refl none h
      where
        by : (list_any p ys ≡ false → Among x ys → p x ≡ false) → (b : Bool) → p y ≡ b → (b || list_any p ys) ≡ false → Among x (y ∷ ys) → p x ≡ false
        by rest true is none h = let e : true ≡ false = none in cc
        by rest false is none (inl h) = ap p h ∙ is
        by rest false is none (inr h) = rest none h

    pub all-among : (xs : List X) → list_all p xs ≡ true → (x : X) → Among x xs → p x ≡ true
    all-among [] all x h = absurd h
    all-among (y ∷ ys) all x h = by (λ k. all-among ys k x) (p y) refl all h
      where
        by : (list_all p ys ≡ true → Among x ys → p x ≡ true) → (b : Bool) → p y ≡ b → (b && list_all p ys) ≡ true → Among x (y ∷ ys) → p x ≡ true
        by rest false is all h = let e : false ≡ true = all in cc
        by rest true is all (inl h) = ap p h ∙ is
        by rest true is all (inr h) = rest all h

  module _ (p : X → Bool) where
    pub among-filter : (x : X) (xs : List X) → Among x xs → p x ≡ true → Among x (filter p xs)
    among-filter x [] h is = absurd h
    among-filter x (y ∷ ys) h is = by (λ k. among-filter x ys k is) (p y) refl h
      where
        by : (Among x ys → Among x (filter p ys)) → (b : Bool) → p y ≡ b → Among x (y ∷ ys) → Among x (cond b (y ∷ filter p ys) (filter p ys))
        by rest true is' (inl e) = inl e
        by rest true is' (inr k) = inr (rest k)
        by rest false not (inl e) = let yes : p y ≡ true = ap p (sym e) ∙ is in absurd (cc)
        by rest false not (inr k) = rest k

    pub filter-among : (x : X) (xs : List X) → Among x (filter p xs) → Among x xs × (p x ≡ true)
    filter-among x [] h = absurd h
    filter-among x (y ∷ ys) h = by (filter-among x ys) (p y) refl h
      where
        by : (Among x (filter p ys) → Among x ys × (p x ≡ true)) → (b : Bool) → p y ≡ b → Among x (cond b (y ∷ filter p ys) (filter p ys)) → Among x (y ∷ ys) × (p x ≡ true)
        by rest true is' (inl e) = (inl e, ap p e ∙ is')
        by rest true is' (inr k) = let r = rest k in (inr r.0, r.1)
        by rest false not k = let r = rest k in (inr r.0, r.1)

  pub get-past : (xs : List X) → slice_get xs (length xs) ≡ None
  get-past [] = refl
  get-past (x ∷ xs) = get-past xs

  pub get-seam : (xs : List X) (y : X) (ys : List X) → slice_get (xs ++ y ∷ ys) (length xs) ≡ Some y
  get-seam [] y ys = refl
  get-seam (x ∷ xs) y ys = get-seam xs y ys

module _ {Y : Type 0} where
  pub among-either : (y : Y) (xs ys : List Y) → Among y (xs ++ ys) → Among y xs ⊎ Among y ys
  among-either y [] ys h = inr h
  among-either y (x ∷ xs) ys (inl h) = inl (inl h)
  among-either y (x ∷ xs) ys (inr h) = by (among-either y xs ys h)
    where
      by : Among y xs ⊎ Among y ys → Among y (x ∷ xs) ⊎ Among y ys
      by (inl k) = inl (inr k)
      by (inr k) = inr k

module _ {X Y : Type 0} (f : X → Y) where
  pub among-map : (x : X) (xs : List X) → Among x xs → Among (f x) (map f xs)
  among-map x [] h = absurd h
  among-map x (y ∷ ys) (inl h) = inl (ap f h)
  among-map x (y ∷ ys) (inr h) = inr (among-map x ys h)

  pub map-among : (y : Y) (xs : List X) → Among y (map f xs) → (x : X) × Among x xs × (y ≡ f x)
  map-among y [] h = absurd h
  map-among y (x ∷ xs) (inl h) = (x, inl refl, h)
  map-among y (x ∷ xs) (inr h) = let rest = map-among y xs h in (rest.0, inr rest.1, rest.2)

module _ {X Y : Type 0} (f : X → List Y) where
  pub among-flat : (x : X) (y : Y) (xs : List X) → Among x xs → Among y (f x) → Among y (flat_map f xs)
  among-flat x y [] h k = absurd h
  among-flat x y (z ∷ zs) (inl h) k = among-left y (f z) (flat_map f zs) (subst (λ (w : X). Among y (f w)) h k)
  among-flat x y (z ∷ zs) (inr h) k = among-right y (f z) (flat_map f zs) (among-flat x y zs h k)

  pub flat-among : (y : Y) (xs : List X) → Among y (flat_map f xs) → (x : X) × Among x xs × Among y (f x)
  flat-among y [] h = absurd h
  flat-among y (x ∷ xs) h = by (flat-among y xs) (among-either y (f x) (flat_map f xs) h)
    where
      by : (Among y (flat_map f xs) → (z : X) × Among z xs × Among y (f z)) → Among y (f x) ⊎ Among y (flat_map f xs) → (z : X) × Among z (x ∷ xs) × Among y (f z)
      by rest (inl k) = (x, inl refl, k)
      by rest (inr k) = let r = rest k in (r.0, inr r.1, r.2)

-- an element that a partial function maps to a value is counted in its image
pub among-filter_map : {X Y : Type 0} (g : X → Option Y) (x : X) (y : Y) (xs : List X) → Among x xs → g x ≡ Some y → Among y (filter_map g xs)
among-filter_map {X} {Y} g x y [] h is = absurd h
among-filter_map {X} {Y} g x y (z ∷ zs) (inl e) is = subst (λ (o : Option Y). Among y (cons_option o (filter_map g zs))) (sym is ∙ ap g e) (inl refl)
among-filter_map {X} {Y} g x y (z ∷ zs) (inr h) is = by (g z) (among-filter_map g x y zs h is)
  where
    by : (o : Option Y) → Among y (filter_map g zs) → Among y (cons_option o (filter_map g zs))
    by None later = later
    by (Some w) later = inr later

pub filter_map-among : {X Y : Type 0} (g : X → Option Y) (y : Y) (xs : List X) → Among y (filter_map g xs) → (x : X) × Among x xs × (g x ≡ Some y)
filter_map-among {X} {Y} g y [] h = absurd h
filter_map-among {X} {Y} g y (x ∷ xs) h = by (g x) refl h (filter_map-among g y xs)
  where
    by : (o : Option Y) → g x ≡ o → Among y (cons_option o (filter_map g xs)) → (Among y (filter_map g xs) → (z : X) × Among z xs × (g z ≡ Some y)) → (z : X) × Among z (x ∷ xs) × (g z ≡ Some y)
    by None is k later = let r = later k in (r.0, inr r.1, r.2)
    by (Some w) is (inl e) later = (x, inl refl, is ∙ ap (λ v. Some v) (sym e))
    by (Some w) is (inr k) later = let r = later k in (r.0, inr r.1, r.2)
