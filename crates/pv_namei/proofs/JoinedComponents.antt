-- Components with a slash after each.
use Rattle.std.proofs.Common.{◌≡◌, ◌≤◌, ℕ, ◌+◌, Bool, true, false, cond, not, ◌&&◌, ◌==◌, List, [], ◌∷◌, ◌++◌, filter, length, refl, ap, ap₂, sym, ◌∙◌, append_assoc, arith}
use Rattle.std.specs.List.{list_all}
use Rattle.std.proofs.Math.ListN.{length-append}
use Rattle.std.proofs.lemmas.Bool.{and_parts}
use Rattle.std.proofs.lemmas.List.Elements.{filter-append}
use Rattle.std.proofs.lemmas.List.Folds.{list_all-append}
use Rattle.std.proofs.lemmas.List.Sums.{sum_by-cons, sum_by-append}
use Rattle.pv_model.specs.Machine.{Bytes, is_empty, onto_first, split_slashes, components, weight}
use Rattle.pv_tree.proofs.OfLawsTrees.WalkPlaces.{is_encoded, is_component, components-encoded}
use Rattle.pv_namei.specs.Components.{with_slashes}

abbrev any : ℕ → Bool
any b = true

all_any : (bs : Bytes) → list_all any bs ≡ true
all_any [] = refl
all_any (b ∷ bs) = all_any bs

pub weight-cons : (p : Bytes) (ps : List Bytes) → weight (p ∷ ps) ≡ length p + 1 + weight ps
weight-cons p ps = sum_by-cons (λ (component : Bytes). length component + 1) p ps

-- the length of their encoding is their weight
pub length-with_slashes : (ps : List Bytes) → length (with_slashes ps) ≡ weight ps
length-with_slashes [] = refl
length-with_slashes (p ∷ ps) = omega (arith, length-append p (47 ∷ with_slashes ps), length-with_slashes ps, weight-cons p ps)

pub with_slashes-append : (ps qs : List Bytes) → with_slashes (ps ++ qs) ≡ with_slashes ps ++ with_slashes qs
with_slashes-append [] qs = refl
with_slashes-append (p ∷ ps) qs = ap (λ bs. p ++ 47 ∷ bs) (with_slashes-append ps qs) ∙ sym (append_assoc p (47 ∷ with_slashes ps) (with_slashes qs))

-- splitting at slashes yields at least one part
split_filled : (bs : Bytes) → (first : Bytes) × (others : List Bytes) × (split_slashes bs ≡ first ∷ others)
split_filled [] = ([], [], refl)
split_filled (b ∷ bs) =
    elim (b == 47) as (λ c. (first : Bytes) × (others : List Bytes) × (cond c ([] ∷ split_slashes bs) (onto_first b (split_slashes bs)) ≡ first ∷ others)) [
      | true ↦ ([], split_slashes bs, refl)
      | false ↦ let ih = split_filled bs in (b ∷ ih.0, ih.1, ap (onto_first b) ih.2)
    ]

onto-append : (b : ℕ) (ps : List Bytes) (first : Bytes) (others qs : List Bytes) → ps ≡ first ∷ others → onto_first b (ps ++ qs) ≡ onto_first b ps ++ qs
onto-append b ps first others qs is = ap (λ ps. onto_first b (ps ++ qs)) is ∙ sym (ap (λ ps. onto_first b ps ++ qs) is)

split-slash : (a b : Bytes) → split_slashes (a ++ 47 ∷ b) ≡ split_slashes a ++ split_slashes b
split-slash [] b = refl
split-slash (c ∷ a) b =
    elim (c == 47) as (λ v. cond v ([] ∷ split_slashes (a ++ 47 ∷ b)) (onto_first c (split_slashes (a ++ 47 ∷ b))) ≡ cond v ([] ∷ split_slashes a) (onto_first c (split_slashes a)) ++ split_slashes b) [
      | true ↦ ap (λ ps. [] ∷ ps) (split-slash a b)
      | false ↦ let filled = split_filled a in ap (onto_first c) (split-slash a b) ∙ onto-append c (split_slashes a) filled.0 filled.1 (split_slashes b) filled.2
    ]

-- a slash separates the components
pub components-slash : (a b : Bytes) → components (a ++ 47 ∷ b) ≡ components a ++ components b
components-slash a b = ap (filter (λ component. not (is_empty component))) (split-slash a b) ∙ filter-append (λ component. not (is_empty component)) (split_slashes a) (split_slashes b)

split-alone : (p : Bytes) → is_encoded any p ≡ true → split_slashes p ≡ p ∷ []
split-alone [] good = refl
split-alone (b ∷ p) good =
    let parts = and_parts (not (b == 47) && true) (is_encoded any p) good in
    let ih = split-alone p parts.1 in
    elim (b == 47) as (λ v. (b == 47) ≡ v → cond v ([] ∷ split_slashes p) (onto_first b (split_slashes p)) ≡ (b ∷ p) ∷ []) [
      | true ↦ λ is. cc (sym (ap (λ v. not v && true) is) ∙ parts.0)
      | false ↦ λ is. ap (onto_first b) ih
    ] refl

components-alone : (p : Bytes) → is_component any p ≡ true → components p ≡ p ∷ []
components-alone [] good = cc good
components-alone (b ∷ p) good = ap (filter (λ component. not (is_empty component))) (split-alone (b ∷ p) good)

-- the components of the encoding are the components
encoded_back : (ps : List Bytes) → list_all (is_component any) ps ≡ true → components (with_slashes ps) ≡ ps
encoded_back [] all = refl
encoded_back (p ∷ ps) all =
    let parts = and_parts (is_component any p) (list_all (is_component any) ps) all in
    components-slash p (with_slashes ps) ∙ ap (λ qs. qs ++ components (with_slashes ps)) (components-alone p parts.0) ∙ ap (λ qs. p ∷ qs) (encoded_back ps parts.1)

components_all : (path : Bytes) → list_all (is_component any) (components path) ≡ true
components_all path = components-encoded any path (all_any path)

-- ---- the encoding of two paths in sequence

pub weight-append : (ps qs : List Bytes) → weight (ps ++ qs) ≡ weight ps + weight qs
weight-append ps qs = sum_by-append (λ (component : Bytes). length component + 1) ps qs

pub components-joined : (a b bytes : Bytes) → bytes ≡ with_slashes (components a) ++ with_slashes (components b) → components bytes ≡ components a ++ components b
components-joined a b bytes is =
    ap components (is ∙ sym (with_slashes-append (components a) (components b)))
    ∙ encoded_back (components a ++ components b) (list_all-append (is_component any) (components a) (components b) ∙ ap₂ (λ x y. x && y) (components_all a) (components_all b))

-- ---- the weight of components

weight-onto : (b : ℕ) (ps : List Bytes) (first : Bytes) (others : List Bytes) → ps ≡ first ∷ others → weight (onto_first b ps) ≡ weight ps + 1
weight-onto b ps first others is =
    omega (arith, ap (λ ps. weight (onto_first b ps)) is, ap weight is, weight-cons (b ∷ first) others, weight-cons first others)

weight-split : (bs : Bytes) → weight (split_slashes bs) ≡ length bs + 1
weight-split [] = refl
weight-split (b ∷ bs) =
    let ih = weight-split bs in
    elim (b == 47) as (λ v. weight (cond v ([] ∷ split_slashes bs) (onto_first b (split_slashes bs))) ≡ length (b ∷ bs) + 1) [
      | true ↦ omega (arith, weight-cons [] (split_slashes bs), ih)
      | false ↦ let filled = split_filled bs in omega (arith, weight-onto b (split_slashes bs) filled.0 filled.1 filled.2, ih)
    ]

weight-filled : (ps : List Bytes) → weight (filter (λ component. not (is_empty component)) ps) ≤ weight ps
weight-filled [] = omega arith
weight-filled (p ∷ ps) =
    let f : Bytes → Bool = λ component. not (is_empty component) in
    let ih = weight-filled ps in
    elim (not (is_empty p)) as (λ v. weight (cond v (p ∷ filter f ps) (filter f ps)) ≤ weight (p ∷ ps)) [
      | true ↦ omega (arith, weight-cons p (filter f ps), weight-cons p ps, ih)
      | false ↦ omega (arith, weight-cons p ps, ih)
    ]

-- the weight of a path's components is at most its length plus one
pub weight-components : (bs : Bytes) → weight (components bs) ≤ length bs + 1
weight-components bs = omega (arith, weight-filled (split_slashes bs), weight-split bs)
