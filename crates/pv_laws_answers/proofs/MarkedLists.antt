-- Lists that marks divide into parts.
use Rattle.std.proofs.Common.{◌≡◌, ◌∙◌, sym, ap, ap₂, refl, Bool, true, false, ◌||◌, List, [], ◌∷◌, ◌++◌, map, flat_map, length, length-append, append_assoc, append-nil, inl, inr, arith}
use Rattle.std.specs.List.{list_any}
use Rattle.std.proofs.lemmas.List.Folds.{list_any-append}
use Rattle.std.proofs.lemmas.Grind.{flat_map-append}
use Rattle.std.proofs.lemmas.Bool.{or_parts}
use Rattle.pv_laws_answers.proofs.Lists.{Among}

-- an element of a list is between others
pub among-between : {X : Type 0} (x : X) (xs : List X) → Among x xs → (before : List X) × (after : List X) × (xs ≡ before ++ (x ∷ after))
among-between x [] within = absurd within
among-between x (y ∷ ys) (inl same) = ([], ys, ap (λ z. z ∷ ys) (sym same))
among-between x (y ∷ ys) (inr within) = let rest = among-between x ys within in (y ∷ rest.0, rest.1, ap (λ zs. y ∷ zs) rest.2)

module _ {X : Type 0} (p : X → Bool) where
  -- ---- no marks

  pub none-append : (xs ys : List X) → list_any p xs ≡ false → list_any p ys ≡ false → list_any p (xs ++ ys) ≡ false
  none-append xs ys none none' = list_any-append p xs ys ∙ ap₂ (λ a b. a || b) none none'

  pub none-map : {Y : Type 0} (f : Y → X) → ((y : Y) → p (f y) ≡ false) → (ys : List Y) → list_any p (map f ys) ≡ false
  none-map f none [] = refl
  none-map f none (y ∷ ys) = ap₂ (λ a b. a || b) (none y) (none-map f none ys)

  pub none-flat : {Y : Type 0} (f : Y → List X) → ((y : Y) → list_any p (f y) ≡ false) → (ys : List Y) → list_any p (flat_map f ys) ≡ false
  none-flat f none [] = refl
  none-flat f none (y ∷ ys) = none-append (f y) (flat_map f ys) (none y) (none-flat f none ys)

  pub none-weaker : (q : X → Bool) → ((x : X) → p x ≡ false → q x ≡ false) → (xs : List X) → list_any p xs ≡ false → list_any q xs ≡ false
  none-weaker q weaker [] none = refl
  none-weaker q weaker (x ∷ xs) none = let parts = or_parts (p x) (list_any p xs) none in ap₂ (λ a b. a || b) (weaker x parts.0) (none-weaker q weaker xs parts.1)

  -- ---- the position of a mark

  -- a mark comes after elements without marks
  pub past-unmarked : (xs ys before : List X) (h : X) (rest : List X) → list_any p xs ≡ false → p h ≡ true → xs ++ ys ≡ before ++ (h ∷ rest)
      → (more : List X) × (before ≡ xs ++ more) × (ys ≡ more ++ (h ∷ rest))
  past-unmarked [] ys before h rest none is same = (before, refl, same)
  past-unmarked (x ∷ xs) ys [] h rest none is same =
      let first : x ≡ h = cc same in
      let parts = or_parts (p x) (list_any p xs) none in
      let both : true ≡ false = sym is ∙ ap p (sym first) ∙ parts.0 in absurd (cc both)
  past-unmarked (x ∷ xs) ys (b ∷ before) h rest none is same =
      let first : x ≡ b = cc same in
      let tail : xs ++ ys ≡ before ++ (h ∷ rest) = cc same in
      let on = past-unmarked xs ys before h rest (or_parts (p x) (list_any p xs) none).1 is tail in
      (on.0, ap₂ (λ z (zs : List X). z ∷ zs) (sym first) on.1, on.2)

  -- two decompositions agree up to the first mark
  pub same-front : (xs ys us vs : List X) (y v : X) → list_any p xs ≡ false → list_any p us ≡ false → p y ≡ true → p v ≡ true → xs ++ (y ∷ ys) ≡ us ++ (v ∷ vs) → xs ≡ us
  same-front [] ys [] vs y v none none' is is' same = refl
  same-front [] ys (u ∷ us) vs y v none none' is is' same =
      let first : y ≡ u = cc same in
      let both : true ≡ false = sym is ∙ ap p first ∙ (or_parts (p u) (list_any p us) none').0 in absurd (cc both)
  same-front (x ∷ xs) ys [] vs y v none none' is is' same =
      let first : x ≡ v = cc same in
      let both : true ≡ false = sym is' ∙ ap p (sym first) ∙ (or_parts (p x) (list_any p xs) none).0 in absurd (cc both)
  same-front (x ∷ xs) ys (u ∷ us) vs y v none none' is is' same =
      let first : x ≡ u = cc same in
      let tail : xs ++ (y ∷ ys) ≡ us ++ (v ∷ vs) = cc same in
      ap₂ (λ z (zs : List X). z ∷ zs) first (same-front xs ys us vs y v (or_parts (p x) (list_any p xs) none).1 (or_parts (p u) (list_any p us) none').1 is is' tail)

-- ---- blocks, each with a line in front

module _ {X I : Type 0} (head : I → X) (body : I → List X) where
  abbrev pub block : I → List X
  block i = head i ∷ body i

  -- the elements after some blocks begin with the front line of a block, or with the elements after all blocks
  pub next-front : (q : X → Bool) → ((i : I) → q (head i) ≡ true) → (items : List I) (t : X) (tail : List X) → q t ≡ true
      → (y : X) × (ys : List X) × (flat_map block items ++ (t ∷ tail) ≡ y ∷ ys) × (q y ≡ true)
  next-front q fronts [] t tail is = (t, tail, refl, is)
  next-front q fronts (i ∷ items) t tail is = (head i, (body i ++ flat_map block items) ++ (t ∷ tail), refl, fronts i)

  -- the position of a block
  pub block-parts : (i : I) (items : List I) → Among i items → (before : List I) × (after : List I) × (flat_map block items ≡ flat_map block before ++ (head i ∷ body i ++ flat_map block after))
  block-parts i items within =
      let parts = among-between i items within in
      (parts.0, parts.1, ap (flat_map block) parts.2 ∙ flat_map-append block parts.0 (i ∷ parts.1))

  module _ (p : X → Bool) (unmarked : (i : I) → list_any p (body i) ≡ false) where
    -- a mark is the front line of a block
    pub find-block : (items : List I) (tail before : List X) (h : X) (rest : List X) → list_any p tail ≡ false → p h ≡ true → flat_map block items ++ tail ≡ before ++ (h ∷ rest)
        → (i : I) × (later : List I) × Among i items × (h ≡ head i) × (rest ≡ body i ++ (flat_map block later ++ tail))
    find-block [] tail before h rest none is same =
        let past = past-unmarked p tail [] before h rest none is (append-nil tail ∙ same) in
        let many : 0 ≡ length (past.0 ++ (h ∷ rest)) = ap length past.2 in
        absurd (omega (arith, many, length-append past.0 (h ∷ rest)))
    find-block (i ∷ items) tail [] h rest none is same =
        let first : head i ≡ h = cc same in
        let after : (body i ++ flat_map block items) ++ tail ≡ rest = cc same in
        (i, items, inl refl, sym first, sym after ∙ append_assoc (body i) (flat_map block items) tail)
    find-block (i ∷ items) tail (b ∷ before) h rest none is same =
        let after : (body i ++ flat_map block items) ++ tail ≡ before ++ (h ∷ rest) = cc same in
        let past = past-unmarked p (body i) (flat_map block items ++ tail) before h rest (unmarked i) is (sym (append_assoc (body i) (flat_map block items) tail) ∙ after) in
        let on = find-block items tail past.0 h rest none is past.2 in
        (on.0, on.1, inr on.2, on.3, on.4)
