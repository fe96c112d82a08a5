-- Membership in lists, and in the lists computed from a state: values of maps, names, ancestors.
use Rattle.std.proofs.Common.{◌≡◌, ℕ, zero, suc, ◌+◌, ◌≤◌, Bool, true, false, cond, ◌==◌, List, [], ◌∷◌, ◌++◌, map, filter, flat_map, fold, min, Option, None, Some, refl, ap, sym, subst, ◌∙◌, ◌⊎◌, inl, inr, ⊎_elim, arith}
use Rattle.std.specs.List.{list_any}
use Rattle.std.specs.Prelude.{filter_map}
use Rattle.std.specs.FinMap.Entries.{find, is_sorted}
use Rattle.std.specs.Ordering.{eq_by_cmp}
use Rattle.std.proofs.lemmas.Bool.{and_parts, or_cases, or_left, or_right, eqb-true, eq-eqb, cases_lt}
use Rattle.std.proofs.Math.Nat.{min-eq_left, min-eq_right, min-le_left, min-le_right}
use Rattle.pv_model.specs.Machine.{Bytes, Numbered, at_number, numbered, numbered_from, Entries, Node, Tree, node_at, entries_of, find_entry, names_in, names_of}
use Rattle.pv_laws_trees.proofs.DirectoryEntries.{by_name, tied-same, tied_itself, find_after}
use Rattle.pv_laws_trees.proofs.Trees.{IsOrdered}

abbrev pub In : (X : Type 0) → X → List X → Type 0
In X x [] = ⊥
In X x (y ∷ ys) = (y ≡ x) ⊎ In X x ys

pub empty-from : (X : Type 0) (xs : List X) → ((x : X) → ¬ In X x xs) → xs ≡ []
empty-from X [] none = refl
empty-from X (x ∷ xs) none = absurd (none x (inl refl))

pub none-in : (X : Type 0) (x : X) (xs : List X) → xs ≡ [] → ¬ In X x xs
none-in X x [] none is = is
none-in X x (y ∷ ys) none is = cc none

pub in-map : (X Y : Type 0) (g : X → Y) (xs : List X) (x : X) → In X x xs → In Y (g x) (map g xs)
in-map X Y g [] x is = is
in-map X Y g (y ∷ ys) x is = ⊎_elim (λ same. inl (ap g same)) (λ later. inr (in-map X Y g ys x later)) is

pub map-in : (X Y : Type 0) (g : X → Y) (xs : List X) (y : Y) → In Y y (map g xs) → (x : X) × In X x xs × (g x ≡ y)
map-in X Y g [] y is = absurd is
map-in X Y g (x ∷ xs) y is =
    ⊎_elim (λ same. (x, inl refl, same)) (λ later. let found = map-in X Y g xs y later in (found.0, inr found.1, found.2)) is

pub in-filter : (X : Type 0) (test : X → Bool) (xs : List X) (x : X) → In X x xs → test x ≡ true → In X x (filter test xs)
in-filter X test [] x is passes = is
in-filter X test (y ∷ ys) x is passes =
    elim (test y) as (λ b. test y ≡ b → In X x (cond b (y ∷ filter test ys) (filter test ys))) [
      | true ↦ λ preserved. ⊎_elim (λ same. inl same) (λ later. inr (in-filter X test ys x later passes)) is
      | false ↦ λ dropped. ⊎_elim (λ same. let no : false ≡ true = sym dropped ∙ ap test same ∙ passes in cc no) (λ later. in-filter X test ys x later passes) is
    ] refl

pub filter-in : (X : Type 0) (test : X → Bool) (xs : List X) (x : X) → In X x (filter test xs) → In X x xs × (test x ≡ true)
filter-in X test [] x is = absurd is
filter-in X test (y ∷ ys) x is =
    elim (test y) as (λ b. test y ≡ b → In X x (cond b (y ∷ filter test ys) (filter test ys)) → In X x (y ∷ ys) × (test x ≡ true)) [
      | true ↦ λ preserved there. ⊎_elim (λ same. (inl same, ap test (sym same) ∙ preserved)) (λ later. let found = filter-in X test ys x later in (inr found.0, found.1)) there
      | false ↦ λ dropped there. let found = filter-in X test ys x there in (inr found.0, found.1)
    ] refl is

-- the values that are present
pub in-preserved : (X : Type 0) (xs : List (Option X)) (x : X) → In (Option X) (Some x) xs → In X x (filter_map (λ (k : Option X). k) xs)
in-preserved X [] x is = is
in-preserved X (None ∷ ys) x is = ⊎_elim (λ same. cc same) (λ later. in-preserved X ys x later) is
in-preserved X (Some y ∷ ys) x is = ⊎_elim (λ same. let value : y ≡ x = cc same in inl value) (λ later. inr (in-preserved X ys x later)) is

pub preserved-in : (X : Type 0) (xs : List (Option X)) (x : X) → In X x (filter_map (λ (k : Option X). k) xs) → In (Option X) (Some x) xs
preserved-in X [] x is = is
preserved-in X (None ∷ ys) x is = inr (preserved-in X ys x is)
preserved-in X (Some y ∷ ys) x is = ⊎_elim (λ same. inl (ap Some same)) (λ later. inr (preserved-in X ys x later)) is

pub in-left : (X : Type 0) (xs ys : List X) (x : X) → In X x xs → In X x (xs ++ ys)
in-left X [] ys x is = absurd is
in-left X (y ∷ zs) ys x is = ⊎_elim (λ same. inl same) (λ later. inr (in-left X zs ys x later)) is

pub in-right : (X : Type 0) (xs ys : List X) (x : X) → In X x ys → In X x (xs ++ ys)
in-right X [] ys x is = is
in-right X (y ∷ zs) ys x is = inr (in-right X zs ys x is)

pub in-either : (X : Type 0) (xs ys : List X) (x : X) → In X x (xs ++ ys) → In X x xs ⊎ In X x ys
in-either X [] ys x is = inr is
in-either X (y ∷ zs) ys x is = ⊎_elim (λ same. inl (inl same)) (λ later. ⊎_elim (λ left. inl (inr left)) (λ right. inr right) (in-either X zs ys x later)) is

pub in-flat : (X Y : Type 0) (g : X → List Y) (xs : List X) (x : X) (y : Y) → In X x xs → In Y y (g x) → In Y y (flat_map g xs)
in-flat X Y g [] x y is has = absurd is
in-flat X Y g (z ∷ zs) x y is has =
    ⊎_elim (λ same. in-left Y (g z) (flat_map g zs) y (subst (λ w. In Y y (g w)) (sym same) has)) (λ later. in-right Y (g z) (flat_map g zs) y (in-flat X Y g zs x y later has)) is

pub flat-in : (X Y : Type 0) (g : X → List Y) (xs : List X) (y : Y) → In Y y (flat_map g xs) → (x : X) × In X x xs × In Y y (g x)
flat-in X Y g [] y is = absurd is
flat-in X Y g (z ∷ zs) y is =
    ⊎_elim (λ left. (z, inl refl, left)) (λ right. let found = flat-in X Y g zs y right in (found.0, inr found.1, found.2)) (in-either Y (g z) (flat_map g zs) y is)

-- a number that satisfies a test of equality
pub any-in : (e : ℕ) (xs : List ℕ) → list_any (λ x. x == e) xs ≡ true → In ℕ e xs
any-in e [] is = cc is
any-in e (x ∷ xs) is = ⊎_elim (λ here. inl (eqb-true x e here)) (λ later. inr (any-in e xs later)) (or_cases (x == e) (list_any (λ x. x == e) xs) is)

pub in-any : (e : ℕ) (xs : List ℕ) → In ℕ e xs → list_any (λ x. x == e) xs ≡ true
in-any e [] is = absurd is
in-any e (x ∷ xs) is = ⊎_elim (λ same. or_left (x == e) _ (eq-eqb x e same)) (λ later. or_right (x == e) _ (in-any e xs later)) is

-- the least element is a member, and no member is less
pub least-in : (k : ℕ) (ks : List ℕ) → In ℕ (fold min k ks) (k ∷ ks)
least-in k [] = inl refl
least-in k (x ∷ xs) = ⊎_elim (λ first. one first) (λ later. inr (inr later)) (least-in (min k x) xs)
  where
    one : min k x ≡ fold min (min k x) xs → In ℕ (fold min (min k x) xs) (k ∷ x ∷ xs)
    one is = ⊎_elim (λ low. inl (sym (min-eq_left (omega (arith, low))) ∙ is)) (λ high. inr (inl (sym (min-eq_right high) ∙ is))) (cases_lt k x)

pub least-low : (k : ℕ) (ks : List ℕ) (x : ℕ) → In ℕ x (k ∷ ks) → fold min k ks ≤ x
least-low k [] x is = ⊎_elim (λ same. omega (arith, same)) (λ none. absurd none) is
least-low k (y ∷ ys) x is =
    let low = least-low (min k y) ys (min k y) (inl refl) in
    ⊎_elim (λ same. omega (arith, same, low, min-le_left k y))
    (λ later. ⊎_elim (λ same. omega (arith, same, low, min-le_right k y)) (λ following. least-low (min k y) ys x (inr following)) later) is

-- ---- values of maps

pub in-numbered : (X : Type 0) (k : ℕ) (xs : Numbered X) (i : ℕ) (x : X) → at_number xs i ≡ Some x → In (ℕ × X) (k + i, x) (numbered_from k xs)
in-numbered X k [] i x is = cc is
in-numbered X k (None ∷ xs) zero x is = cc is
in-numbered X k (Some y ∷ xs) zero x is =
    let value : y ≡ x = cc is in
    let number : k ≡ k + 0 = omega arith in
    inl (λ j. (number j, value j))
in-numbered X k (None ∷ xs) (suc i) x is =
    let number : suc k + i ≡ k + suc i = omega arith in
    subst (λ n. In (ℕ × X) (n, x) (numbered_from (suc k) xs)) number (in-numbered X (suc k) xs i x is)
in-numbered X k (Some y ∷ xs) (suc i) x is =
    let number : suc k + i ≡ k + suc i = omega arith in
    inr (subst (λ n. In (ℕ × X) (n, x) (numbered_from (suc k) xs)) number (in-numbered X (suc k) xs i x is))

pub numbered-in : (X : Type 0) (k : ℕ) (xs : Numbered X) (e : ℕ × X) → In (ℕ × X) e (numbered_from k xs) → (i : ℕ) × (k + i ≡ e.0) × (at_number xs i ≡ Some e.1)
numbered-in X k [] e is = absurd is
numbered-in X k (None ∷ xs) e is =
    let found = numbered-in X (suc k) xs e is in (suc found.0, omega (arith, found.1), found.2)
numbered-in X k (Some y ∷ xs) e is =
    ⊎_elim
    (λ same. let number : k ≡ e.0 = ap (λ (p : ℕ × X). p.0) same in (0, omega (arith, number), ap (λ (p : ℕ × X). Some p.1) same))
    (λ later. let found = numbered-in X (suc k) xs e later in (suc found.0, omega (arith, found.1), found.2)) is

pub numbered-at : (X : Type 0) (xs : Numbered X) (i : ℕ) (x : X) → at_number xs i ≡ Some x → In (ℕ × X) (i, x) (numbered xs)
numbered-at X xs i x is = let number : 0 + i ≡ i = omega arith in subst (λ n. In (ℕ × X) (n, x) (numbered xs)) number (in-numbered X 0 xs i x is)

pub at-numbered : (X : Type 0) (xs : Numbered X) (e : ℕ × X) → In (ℕ × X) e (numbered xs) → at_number xs e.0 ≡ Some e.1
at-numbered X xs e is =
    let found = numbered-in X 0 xs e is in
    let number : found.0 ≡ e.0 = omega (arith, found.1) in
    ap (at_number xs) (sym number) ∙ found.2

-- ---- the names of a node

found-in : (n : ℕ) (name : Bytes) (es : Entries) → find by_name name es ≡ Some n → In (Bytes × ℕ) (name, n) es
found-in n name [] is = cc is
found-in n name (e ∷ es) is =
    elim (eq_by_cmp by_name name e.0) as (λ b. eq_by_cmp by_name name e.0 ≡ b → cond b (Some e.1) (find by_name name es) ≡ Some n → In (Bytes × ℕ) (name, n) (e ∷ es)) [
      | true ↦ λ tied here. let value : e.1 ≡ n = cc here in let word : e.0 ≡ name = sym (tied-same name e.0 tied) in inl (λ j. (word j, value j))
      | false ↦ λ tied there. inr (found-in n name es there)
    ] refl is

in-found : (n : ℕ) (name : Bytes) (es : Entries) → is_sorted by_name es ≡ true → In (Bytes × ℕ) (name, n) es → find by_name name es ≡ Some n
in-found n name [] sorted is = absurd is
in-found n name (e ∷ es) sorted is =
    ⊎_elim
    (λ same. subst (λ (x : Bytes × ℕ). find by_name x.0 (e ∷ es) ≡ Some x.1) same (ap (λ b. cond b (Some e.1) (find by_name e.0 es)) (tied_itself e.0)))
    (λ later. (find_after name n e es sorted (in-found n name es (and_parts _ (is_sorted by_name es) sorted).1 later)).1) is

pub entry-in : (t : Tree) (f d : ℕ) (name : Bytes) → find_entry t d name ≡ Some f → In (ℕ × Bytes) (d, name) (names_of t f)
entry-in t f d name is = by (node_at t d) refl is
  where
    by : (o : Option Node) → node_at t d ≡ o → find by_name name (entries_of o) ≡ Some f → In (ℕ × Bytes) (d, name) (names_of t f)
    by None at found = cc found
    by (Some node) at found =
        in-flat (ℕ × Node) (ℕ × Bytes) (λ (e : ℕ × Node). names_in f (entries_of (Some e.1)) e.0) (numbered t.nodes) (d, node) (d, name) (numbered-at Node t.nodes d node at)
        (in-map (Bytes × ℕ) (ℕ × Bytes) (λ (x : Bytes × ℕ). (d, x.0)) (filter (λ (x : Bytes × ℕ). x.1 == f) (entries_of (Some node))) (name, f)
        (in-filter (Bytes × ℕ) (λ (x : Bytes × ℕ). x.1 == f) (entries_of (Some node)) (name, f) (found-in f name (entries_of (Some node)) found) (eq-eqb f f refl)))

pub in-entry : (t : Tree) → IsOrdered t → (f : ℕ) (x : ℕ × Bytes) → In (ℕ × Bytes) x (names_of t f) → find_entry t x.0 x.1 ≡ Some f
in-entry t sorted f x is =
    let at = flat-in (ℕ × Node) (ℕ × Bytes) (λ (e : ℕ × Node). names_in f (entries_of (Some e.1)) e.0) (numbered t.nodes) x is in
    let d : ℕ = at.0.0 in
    let node : Node = at.0.1 in
    let there : node_at t d ≡ Some node = at-numbered Node t.nodes at.0 at.1 in
    let entry = map-in (Bytes × ℕ) (ℕ × Bytes) (λ (y : Bytes × ℕ). (d, y.0)) (filter (λ (y : Bytes × ℕ). y.1 == f) (entries_of (Some node))) x at.2 in
    let preserved = filter-in (Bytes × ℕ) (λ (y : Bytes × ℕ). y.1 == f) (entries_of (Some node)) entry.0 entry.1 in
    let order : is_sorted by_name (entries_of (Some node)) ≡ true = ap (λ o. is_sorted by_name (entries_of o)) (sym there) ∙ sorted d in
    let found : find by_name entry.0.0 (entries_of (Some node)) ≡ Some entry.0.1 = in-found entry.0.1 entry.0.0 (entries_of (Some node)) order preserved.0 in
    let one : find_entry t d entry.0.0 ≡ Some f = ap (λ o. find by_name entry.0.0 (entries_of o)) there ∙ found ∙ ap Some (eqb-true entry.0.1 f preserved.1) in
    subst (λ (y : ℕ × Bytes). find_entry t y.0 y.1 ≡ Some f) entry.2 one
