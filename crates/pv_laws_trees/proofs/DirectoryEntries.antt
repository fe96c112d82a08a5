-- The entries of one directory.
use Rattle.std.proofs.Common.{◌≡◌, ◌≢◌, ℕ, Bool, true, false, cond, not, ◌==◌, List, [], ◌∷◌, filter, bytes_eq, None, Some, T, refl, ap, sym, subst, ◌∙◌, ⊎_elim}
use Rattle.std.specs.Cmp.Lexicographic.{slice_cmp}
use Rattle.std.specs.Ordering.{nat_cmp, is_eq, eq_by_cmp}
use Rattle.std.specs.List.{list_all}
use Rattle.std.specs.FinMap.Entries.{find, put, where_key, is_sorted, below_all, find-put, find-where_key}
use Rattle.std.proofs.lemmas.Bool.{and_parts, and_from, eqb-true, eq-eqb, or_left, or_right, or_cases}
use Rattle.std.proofs.lemmas.Cmp.{nat_list_cmp_total}
use Rattle.std.proofs.lemmas.Map.Text.{is_eq-slice_cmp}
use Rattle.std.proofs.lemmas.Slice.Eq.{bytes_eq-Decides}
use Rattle.std.specs.declared.cmp.Ordering.{Ordering}
use Rattle.std.specs.declared.cmp.Ordering.TheVariants.{Less, Equal, Greater}
use Rattle.pv_model.specs.Machine.{Bytes, Entries}
use Rattle.pv_model.specs.Tree.{names_node}

abbrev pub by_name : Bytes → Bytes → Ordering
by_name = slice_cmp nat_cmp

-- the order of names treats two names as equal if and only if their bytes are equal
pub ties-bytes_eq : (a b : Bytes) → eq_by_cmp by_name a b ≡ bytes_eq a b
ties-bytes_eq a b = is_eq-slice_cmp a b

pub tied-same : (a b : Bytes) → eq_by_cmp by_name a b ≡ true → a ≡ b
tied-same a b tied = (bytes_eq-Decides a b).0 (sym (ties-bytes_eq a b) ∙ tied)

pub tied_itself : (a : Bytes) → eq_by_cmp by_name a a ≡ true
tied_itself a = ties-bytes_eq a a ∙ (bytes_eq-Decides a a).1 refl

pub not_tied : (a b : Bytes) → a ≢ b → eq_by_cmp by_name a b ≡ false
not_tied a b other = elim (eq_by_cmp by_name a b) as (λ v. eq_by_cmp by_name a b ≡ v → v ≡ false) [ true ↦ λ is. absurd (other (tied-same a b is)) | false ↦ λ is. refl ] refl

pub bytes_eq-same : (a b : Bytes) → bytes_eq a b ≡ true → a ≡ b
bytes_eq-same a b is = (bytes_eq-Decides a b).0 is

pub bytes_eq-itself : (a : Bytes) → bytes_eq a a ≡ true
bytes_eq-itself a = (bytes_eq-Decides a a).1 refl

pub bytes_eq-other : (a b : Bytes) → a ≢ b → bytes_eq a b ≡ false
bytes_eq-other a b other = sym (ties-bytes_eq a b) ∙ not_tied a b other

-- T and an equation with true
pub reported : (b : Bool) → T b → b ≡ true
reported true t = refl
reported false t = absurd t

pub report : (b : Bool) → b ≡ true → T b
report b is = subst T (sym is) tt

-- lookups after a change

pub find-put_same : {X : Type 0} (name : Bytes) (n : X) (es : List (Bytes × X)) → find by_name name (put by_name name n es) ≡ Some n
find-put_same name n es = find-put by_name nat_list_cmp_total name name n es ∙ ap (λ b. cond b (Some n) (find by_name name es)) (tied_itself name)

pub find-put_other : {X : Type 0} (q name : Bytes) (n : X) (es : List (Bytes × X)) → q ≢ name → find by_name q (put by_name name n es) ≡ find by_name q es
find-put_other q name n es other = find-put by_name nat_list_cmp_total q name n es ∙ ap (λ b. cond b (Some n) (find by_name q es)) (not_tied q name other)

abbrev pub is_other : Bytes → Bytes → Bool
is_other name other = not (bytes_eq other name)

alike : (name q x : Bytes) → by_name q x ≡ Equal → is_other name x ≡ is_other name q
alike name q x tied = ap (is_other name) (sym (tied-same q x (ap is_eq tied)))

pub find-without_same : {X : Type 0} (name : Bytes) (es : List (Bytes × X)) → find by_name name (where_key by_name (is_other name) es) ≡ None
find-without_same name es =
    find-where_key by_name (is_other name) name (alike name name) es ∙ ap (λ b. cond (not b) (find by_name name es) None) (bytes_eq-itself name)

pub find-without_other : {X : Type 0} (q name : Bytes) (es : List (Bytes × X)) → q ≢ name → find by_name q (where_key by_name (is_other name) es) ≡ find by_name q es
find-without_other q name es other =
    find-where_key by_name (is_other name) q (alike name q) es ∙ ap (λ b. cond (not b) (find by_name q es) None) (bytes_eq-other q name other)

-- tests on keys

pub list_all-put : {X : Type 0} (test : Bytes → Bool) (name : Bytes) (n : X) (es : List (Bytes × X)) → test name ≡ true
    → list_all (λ e. test e.0) es ≡ true → list_all (λ e. test e.0) (put by_name name n es) ≡ true
list_all-put test name n [] here all = and_from _ _ here refl
list_all-put test name n (e ∷ es) here all =
    let parts = and_parts (test e.0) (list_all (λ e. test e.0) es) all in
    elim (by_name name e.0) as (λ o. list_all (λ e. test e.0) (Rattle.std.specs.FinMap.Entries.by_order o ((name, n) ∷ e ∷ es) ((e.0, n) ∷ es) (e ∷ put by_name name n es)) ≡ true) [
      | Less ↦ and_from _ _ here all
      | Equal ↦ all
      | Greater ↦ and_from _ _ parts.0 (list_all-put test name n es here parts.1)
    ]

pub list_all-filter : {X : Type 0} (test keeps : X → Bool) (xs : List X) → list_all test xs ≡ true → list_all test (filter keeps xs) ≡ true
list_all-filter test keeps [] all = refl
list_all-filter test keeps (x ∷ xs) all =
    let parts = and_parts (test x) (list_all test xs) all in
    let rest = list_all-filter test keeps xs parts.1 in
    elim (keeps x) as (λ b. list_all test (cond b (x ∷ filter keeps xs) (filter keeps xs)) ≡ true) [ true ↦ and_from _ _ parts.0 rest | false ↦ rest ]

-- an entry that is found passes a test that all pass
pub find-list_all : {X : Type 0} (test : Bytes × X → Bool) (name : Bytes) (n : X) (es : List (Bytes × X)) → list_all test es ≡ true → find by_name name es ≡ Some n → test (name, n) ≡ true
find-list_all test name n [] all is = cc
find-list_all test name n (e ∷ es) all is =
    let parts = and_parts (test e) (list_all test es) all in
    elim (eq_by_cmp by_name name e.0) as (λ b. eq_by_cmp by_name name e.0 ≡ b → cond b (Some e.1) (find by_name name es) ≡ Some n → test (name, n) ≡ true) [
      | true ↦ λ tied here. let same : name ≡ e.0 = tied-same name e.0 tied in let value : e.1 ≡ n = cc here in rw (same, ← value) parts.0
      | false ↦ λ tied there. find-list_all test name n es parts.1 there
    ] refl is

-- the names of a node

pub find-names_node : (n : ℕ) (name : Bytes) (es : Entries) → find by_name name es ≡ Some n → names_node n es ≡ true
find-names_node n name [] is = cc
find-names_node n name (e ∷ es) is =
    elim (eq_by_cmp by_name name e.0) as (λ b. cond b (Some e.1) (find by_name name es) ≡ Some n → names_node n (e ∷ es) ≡ true) [
      | true ↦ λ here. or_left (e.1 == n) _ (eq-eqb e.1 n (cc here))
      | false ↦ λ there. or_right (e.1 == n) _ (find-names_node n name es there)
    ] is

-- a name below all others is not one of them
find_below : {X : Type 0} (q : Bytes) (es : List (Bytes × X)) → below_all by_name q es ≡ true → find by_name q es ≡ None
find_below q [] below = refl
find_below q (e ∷ es) below =
    let parts = and_parts _ (below_all by_name q es) below in
    ap (λ b. cond b (Some e.1) (find by_name q es)) (elim (by_name q e.0) as (λ o. Rattle.std.specs.Ordering.is_lt o ≡ true → is_eq o ≡ false) [ Less ↦ λ _. refl | Equal ↦ λ h. cc h | Greater ↦ λ h. refl ] parts.0)
    ∙ find_below q es parts.1

-- a lookup after the first entry
pub find_after : {X : Type 0} (q : Bytes) (n : X) (e : Bytes × X) (es : List (Bytes × X)) → is_sorted by_name (e ∷ es) ≡ true
    → find by_name q es ≡ Some n → (q ≢ e.0) × (find by_name q (e ∷ es) ≡ Some n)
find_after q n e es sorted is =
    let parts = and_parts (below_all by_name e.0 es) _ sorted in
    let other : q ≢ e.0 = λ same. let none : find by_name q es ≡ None = ap (λ k. find by_name k es) same ∙ find_below e.0 es parts.0 in cc in
    (other, ap (λ b. cond b (Some e.1) (find by_name q es)) (not_tied q e.0 other) ∙ is)

pub names_node-find : (n : ℕ) (es : Entries) → is_sorted by_name es ≡ true → names_node n es ≡ true → (name : Bytes) × (find by_name name es ≡ Some n)
names_node-find n [] sorted is = cc
names_node-find n (e ∷ es) sorted is =
    let parts = and_parts (below_all by_name e.0 es) _ sorted in
    ⊎_elim
    (λ here. (e.0, ap (λ b. cond b (Some e.1) (find by_name e.0 es)) (tied_itself e.0) ∙ ap Some (eqb-true e.1 n here)))
    (λ there. let found = names_node-find n es parts.1 there in (found.0, (find_after found.0 n e es sorted found.1).1))
    (or_cases (e.1 == n) (names_node n es) is)
