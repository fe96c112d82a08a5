-- The least of some numbers.
use Rattle.std.proofs.Common.{◌≡◌, ℕ, ◌<◌, ◌≤◌, Bool, true, false, cond, List, [], ◌∷◌, ◌++◌, map, fold, min, Option, None, Some, refl, ap, sym, subst, ◌∙◌, ⊎_elim, inl, inr, arith}
use Rattle.std.specs.Prelude.{filter_map}
use Rattle.std.proofs.lemmas.Bool.{cases_lt}
use Rattle.std.proofs.Math.Nat.{min-eq_left, min-eq_right}
use Rattle.pv_model.specs.declared.perms.Perms.{Perms}
use Rattle.pv_model.specs.Machine.{Table, permissions_at}
use Rattle.pv_laws_trees.proofs.ListMembers.{In, in-map, map-in, in-filter, filter-in, in-preserved, preserved-in}
use Rattle.pv_audit.specs.Findings.{lesser, least, passing, entries_passing}

pub lesser-none : (a : Option ℕ) → lesser a None ≡ a
lesser-none None = refl
lesser-none (Some a) = refl

min_assoc : (a b c : ℕ) → min (min a b) c ≡ min a (min b c)
min_assoc a b c = omega arith

pub lesser-assoc : (a b c : Option ℕ) → lesser (lesser a b) c ≡ lesser a (lesser b c)
lesser-assoc None b c = refl
lesser-assoc (Some a) None c = refl
lesser-assoc (Some a) (Some b) None = refl
lesser-assoc (Some a) (Some b) (Some c) = ap Some (min_assoc a b c)

pub least-append : (xs ys : List ℕ) → least (xs ++ ys) ≡ lesser (least xs) (least ys)
least-append [] ys = refl
least-append (x ∷ xs) ys = ap (lesser (Some x)) (least-append xs ys) ∙ sym (lesser-assoc (Some x) (least xs) (least ys))

-- the least number as a fold
pub least-fold : (k : ℕ) (ks : List ℕ) → least (k ∷ ks) ≡ Some (fold min k ks)
least-fold k [] = refl
least-fold k (x ∷ ks) = sym (lesser-assoc (Some k) (Some x) (least ks)) ∙ least-fold (min k x) ks

-- ---- the least is an element, and no element is less

first_in : (k m : ℕ) (ks : List ℕ) (o : Option ℕ) → ((j : ℕ) → o ≡ Some j → In ℕ j ks) → lesser (Some k) o ≡ Some m → In ℕ m (k ∷ ks)
first_in k m ks None later is = let same : k ≡ m = cc is in inl same
first_in k m ks (Some j) later is =
    let value : min k j ≡ m = cc is in
    ⊎_elim (λ (less : k < j). inl (sym (min-eq_left (omega arith)) ∙ value)) (λ more. inr (later m (ap Some (sym (min-eq_right more) ∙ value)))) (cases_lt k j)

pub least-in : (ks : List ℕ) (m : ℕ) → least ks ≡ Some m → In ℕ m ks
least-in [] m is = cc is
least-in (k ∷ ks) m is = first_in k m ks (least ks) (λ j table_access. least-in ks j table_access) is

some_least : (k : ℕ) (o : Option ℕ) → lesser (Some k) o ≡ None → ⊥
some_least k None is = cc is
some_least k (Some j) is = cc is

pub least-none : (ks : List ℕ) (j : ℕ) → least ks ≡ None → In ℕ j ks → ⊥
least-none [] j is within = within
least-none (k ∷ ks) j is within = some_least k (least ks) is

first_low : (k m j : ℕ) (ks : List ℕ) (o : Option ℕ) → least ks ≡ o → (In ℕ j ks → (i : ℕ) → least ks ≡ Some i → i ≤ j) → lesser (Some k) o ≡ Some m → In ℕ j (k ∷ ks) → m ≤ j
first_low k m j ks None none later is within =
    let same : k ≡ m = cc is in
    ⊎_elim (λ here. omega (arith, here, same)) (λ there. absurd (least-none ks j none there)) within
first_low k m j ks (Some i) some later is within =
    let value : min k i ≡ m = cc is in
    ⊎_elim (λ here. omega (arith, here, value)) (λ there. let low = later there i some in omega (arith, low, value)) within

pub least-low : (ks : List ℕ) (m j : ℕ) → least ks ≡ Some m → In ℕ j ks → m ≤ j
least-low [] m j is within = absurd within
least-low (k ∷ ks) m j is within = first_low k m j ks (least ks) refl (λ there i table_access. least-low ks i j table_access there) is within

pub least-is : (ks : List ℕ) (m : ℕ) → In ℕ m ks → ((j : ℕ) → In ℕ j ks → m ≤ j) → least ks ≡ Some m
least-is ks m within low = by (least ks) refl
  where
    by : (o : Option ℕ) → least ks ≡ o → o ≡ Some m
    by None is = absurd (least-none ks m is within)
    by (Some k) is = let a = low k (least-in ks k is) in let b = least-low ks k m is within in let same : k ≡ m = omega (arith, a, b) in ap Some same

pub least-empty : (ks : List ℕ) → ((j : ℕ) → In ℕ j ks → ⊥) → least ks ≡ None
least-empty [] none = refl
least-empty (k ∷ ks) none = absurd (none k (inl refl))

-- lists with the same elements have the same least element
pub least-same : (xs ys : List ℕ) → ((k : ℕ) → In ℕ k xs → In ℕ k ys) → ((k : ℕ) → In ℕ k ys → In ℕ k xs) → least xs ≡ least ys
least-same xs ys there back = by (least ys) refl
  where
    by : (o : Option ℕ) → least ys ≡ o → least xs ≡ o
    by None is = least-empty xs (λ j within. least-none ys j is (there j within))
    by (Some m) is = least-is xs m (back m (least-in ys m is)) (λ j within. least-low ys m j is (there j within))

-- ---- entries whose permissions pass a test

pub least-cons : (test : Perms → Bool) (table : Table) (o : Option ℕ) (os : List (Option ℕ)) → least (entries_passing test table (o ∷ os)) ≡ lesser (passing test table o) (least (entries_passing test table os))
least-cons test table None os = refl
least-cons test table (Some k) os =
    elim (test (permissions_at table k)) as (λ b. least (cond b (k ∷ entries_passing test table os) (entries_passing test table os)) ≡ lesser (cond b (Some k) None) (least (entries_passing test table os))) [
      | true ↦ refl
      | false ↦ refl
    ]

pub passing-append : (test : Perms → Bool) (table : Table) (xs ys : List (Option ℕ)) → least (entries_passing test table (xs ++ ys)) ≡ lesser (least (entries_passing test table xs)) (least (entries_passing test table ys))
passing-append test table [] ys = refl
passing-append test table (x ∷ xs) ys =
    least-cons test table x (xs ++ ys) ∙ ap (lesser (passing test table x)) (passing-append test table xs ys)
    ∙ sym (lesser-assoc (passing test table x) (least (entries_passing test table xs)) (least (entries_passing test table ys)))
    ∙ ap (λ (o : Option ℕ). lesser o (least (entries_passing test table ys))) (sym (least-cons test table x xs))

module _ (X : Type 0) (test : Perms → Bool) (table : Table) (g : X → Option ℕ) (xs : List X) (k : ℕ) where
  pub in-passing : (x : X) → In X x xs → g x ≡ Some k → test (permissions_at table k) ≡ true → In ℕ k (entries_passing test table (map g xs))
  in-passing x within is passes =
      in-filter ℕ (λ j. test (permissions_at table j)) (filter_map (λ (o : Option ℕ). o) (map g xs)) k
      (in-preserved ℕ (map g xs) k (subst (λ o. In (Option ℕ) o (map g xs)) is (in-map X (Option ℕ) g xs x within))) passes

  pub passing-in : In ℕ k (entries_passing test table (map g xs)) → (x : X) × In X x xs × (g x ≡ Some k) × (test (permissions_at table k) ≡ true)
  passing-in is =
      let preserved = filter-in ℕ (λ j. test (permissions_at table j)) (filter_map (λ (o : Option ℕ). o) (map g xs)) k is in
      let table_access = map-in X (Option ℕ) g xs (Some k) (preserved-in ℕ (map g xs) k preserved.0) in
      (table_access.0, table_access.1, table_access.2, preserved.1)
