-- The order of names with their directories, and lists that ascend in it.
use Rattle.std.proofs.Common.{◌≡◌, ℕ, suc, ◌<◌, ◌≤◌, Bool, true, false, cond, ◌&&◌, ◌==◌, nat_lt, List, [], ◌∷◌, ◌++◌, map, filter, flat_map, Option, None, Some, refl, ap, sym, subst, ◌∙◌, ◌⊎◌, ⊎_elim, inl, inr, arith}
use Rattle.std.specs.List.{list_all}
use Rattle.std.specs.Prelude.{find}
use Rattle.std.specs.FinMap.Entries.{is_sorted, below_all}
use Rattle.std.specs.Ordering.{is_lt, ordering_reverse}
use Rattle.std.specs.declared.cmp.Ordering.{Ordering}
use Rattle.std.specs.declared.cmp.Ordering.TheVariants.{Less, Equal, Greater}
use Rattle.std.proofs.lemmas.Bool.{and_parts, and_from, or_cases, or_left, or_right, eqb-true, eq-eqb, lt-ltb, ltb-true, ltb-false, false_from_ne_true}
use Rattle.std.proofs.lemmas.Cmp.{nat_list_cmp_total}
use Rattle.std.proofs.lemmas.List.Folds.{list_all-append}
use Rattle.pv_model.specs.Machine.{Bytes, is_past, Numbered, at_number, numbered_from, Entries, Node, Tree, entries_of, names_in, names_of}
use Rattle.pv_laws_trees.proofs.DirectoryEntries.{by_name, tied-same}
use Rattle.pv_laws_trees.proofs.Trees.{IsOrdered}
use Rattle.pv_laws_trees.proofs.NameCounts.{names_of_nodes}
use Rattle.pv_laws_trees.proofs.NameOrder.{not_after_itself, after_more}
use Rattle.pv_laws_trees.proofs.ListMembers.{In, entry-in, in-entry}
use Rattle.pv_tree.specs.NodeNames.{is_after, first_after, names_after, names_from, IsLeastAfter, IsNextNameOfNode}

-- a name with its directory
abbrev pub Named : Type 0
Named = ℕ × Bytes

-- ---- names of one directory

-- two names are equal if neither follows the other
same_name : (o : Ordering) (a b : Bytes) → by_name a b ≡ o → is_past (Some a) b ≡ false → is_past (Some b) a ≡ false → a ≡ b
same_name Less a b is isnt other = let yes : is_past (Some a) b ≡ true = ap is_lt is in cc
same_name Equal a b is isnt other = tied-same a b (ap Rattle.std.specs.Ordering.is_eq is)
same_name Greater a b is isnt other =
    let turned : by_name b a ≡ Less = nat_list_cmp_total.antisymm b a ∙ ap ordering_reverse is in
    let yes : is_past (Some b) a ≡ true = ap is_lt turned in cc

same-name : (a b : Bytes) → is_past (Some a) b ≡ false → is_past (Some b) a ≡ false → a ≡ b
same-name a b isnt other = same_name (by_name a b) a b refl isnt other

-- ---- names with directories

pub after-cases : (l x : Named) → is_after (Some l) x ≡ true → (l.0 < x.0) ⊎ ((l.0 ≡ x.0) × (is_past (Some l.1) x.1 ≡ true))
after-cases l x is =
    ⊎_elim (λ less. inl (ltb-true l.0 x.0 less)) (λ same. let parts = and_parts (l.0 == x.0) (is_past (Some l.1) x.1) same in inr (eqb-true l.0 x.0 parts.0, parts.1))
    (or_cases (nat_lt l.0 x.0) _ is)

pub after-lower : (l x : Named) → l.0 < x.0 → is_after (Some l) x ≡ true
after-lower l x less = or_left (nat_lt l.0 x.0) _ (lt-ltb l.0 x.0 less)

pub after-same : (l x : Named) → l.0 ≡ x.0 → is_past (Some l.1) x.1 ≡ true → is_after (Some l) x ≡ true
after-same l x same following = or_right (nat_lt l.0 x.0) _ (and_from (l.0 == x.0) _ (eq-eqb l.0 x.0 same) following)

-- a name that follows one after the last name also follows the last name
pub after-more : (last : Option Named) (x y : Named) → is_after last x ≡ true → is_after (Some x) y ≡ true → is_after last y ≡ true
after-more None x y is more = refl
after-more (Some l) x y is more =
    ⊎_elim
    (λ low. ⊎_elim (λ high. after-lower l y (omega arith)) (λ same. after-lower l y (omega (arith, same.0))) (after-cases x y more))
    (λ level. ⊎_elim (λ high. after-lower l y (omega (arith, level.0))) (λ same. after-same l y (level.0 ∙ same.0) (after_more (Some l.1) x.1 y.1 level.1 same.1)) (after-cases x y more))
    (after-cases l x is)

pub not-after_itself : (x : Named) → is_after (Some x) x ≡ false
not-after_itself x =
    false_from_ne_true (is_after (Some x) x)
    (λ is. ⊎_elim (λ (low : x.0 < x.0). omega arith) (λ same. let isnt = not_after_itself x.1 in let both : true ≡ false = sym same.1 ∙ isnt in cc both) (after-cases x x is))

pub not-after_both : (x y : Named) → is_after (Some x) y ≡ true → is_after (Some y) x ≡ false
not-after_both x y is =
    false_from_ne_true (is_after (Some y) x)
    (λ back. let both : true ≡ false = sym (after-more (Some x) y x is back) ∙ not-after_itself x in cc both)

-- two names are equal if neither follows the other
pub same-named : (x y : Named) → is_after (Some x) y ≡ false → is_after (Some y) x ≡ false → x ≡ y
same-named x y isnt other = pair level (same-name x.1 y.1 (unless x y isnt level) (unless y x other (sym level)))
  where
    not_lower : (a b : Named) → is_after (Some a) b ≡ false → b.0 ≤ a.0
    not_lower a b is = ltb-false a.0 b.0 (false_from_ne_true (nat_lt a.0 b.0) (λ less. let both : true ≡ false = sym (or_left (nat_lt a.0 b.0) _ less) ∙ is in cc both))

    level : x.0 ≡ y.0
    level = omega (arith, not_lower x y isnt, not_lower y x other)

    unless : (a b : Named) → is_after (Some a) b ≡ false → a.0 ≡ b.0 → is_past (Some a.1) b.1 ≡ false
    unless a b is same = false_from_ne_true (is_past (Some a.1) b.1) (λ following. let both : true ≡ false = sym (after-same a b same following) ∙ is in cc both)

    pair : x.0 ≡ y.0 → x.1 ≡ y.1 → x ≡ y
    pair a b = λ i. (a i, b i)

-- ---- ascending lists

abbrev pub all_after : Named → List Named → Bool
all_after x ns = list_all (λ (y : Named). is_after (Some x) y) ns

abbrev pub rises : List Named → Bool
rises [] = true
rises (x ∷ ns) = all_after x ns && rises ns

-- all names follow the last one if they follow one that does
all_after_last : (last : Option Named) (x : Named) (ns : List Named) → is_after last x ≡ true → all_after x ns ≡ true → names_after last ns ≡ ns
all_after_last last x [] is all = refl
all_after_last last x (y ∷ ns) is all =
    let parts = and_parts (is_after (Some x) y) (all_after x ns) all in
    ap (λ b. cond b (y ∷ names_after last ns) (names_after last ns)) (after-more last x y is parts.0)
    ∙ ap (λ (ys : List Named). y ∷ ys) (all_after_last last x ns is parts.1)

all_after_itself : (x : Named) (ns : List Named) → all_after x ns ≡ true → names_after (Some x) ns ≡ ns
all_after_itself x [] all = refl
all_after_itself x (y ∷ ns) all =
    let parts = and_parts (is_after (Some x) y) (all_after x ns) all in
    ap (λ b. cond b (y ∷ names_after (Some x) ns) (names_after (Some x) ns)) parts.0
    ∙ ap (λ (ys : List Named). y ∷ ys) (all_after_itself x ns parts.1)

-- a test that all names pass is passed by one that is found
found-passes : (p q : Named → Bool) (ns : List Named) (x : Named) → list_all q ns ≡ true → find p ns ≡ Some x → q x ≡ true
found-passes p q [] x all is = cc is
found-passes p q (y ∷ ns) x all is =
    let parts = and_parts (q y) (list_all q ns) all in
    elim (p y) as (λ b. cond b (Some y) (find p ns) ≡ Some x → q x ≡ true) [
      | true ↦ λ here. let same : y ≡ x = cc here in subst (λ z. q z ≡ true) same parts.0
      | false ↦ λ there. found-passes p q ns x parts.1 there
    ] is

-- the names that follow the last one are the next name and those after it
pub after-next : (last : Option Named) (ns : List Named) → rises ns ≡ true → names_after last ns ≡ names_from (first_after last ns) ns
after-next last [] up = refl
after-next last (y ∷ ns) up =
    let parts = and_parts (all_after y ns) (rises ns) up in
    elim (is_after last y) as (λ b. is_after last y ≡ b → cond b (y ∷ names_after last ns) (names_after last ns) ≡ names_from (cond b (Some y) (first_after last ns)) (y ∷ ns)) [
      | true ↦ λ is.
          ap (λ (zs : List Named). y ∷ zs)
          (all_after_last last y ns is parts.0 ∙ sym (all_after_itself y ns parts.0)
          ∙ sym (ap (λ b. cond b (y ∷ names_after (Some y) ns) (names_after (Some y) ns)) (not-after_itself y)))
      | false ↦ λ is. after-next last ns parts.1 ∙ later (first_after last ns) refl parts.0
    ] refl
  where
    later : (o : Option Named) → first_after last ns ≡ o → all_after y ns ≡ true → names_from o ns ≡ names_from o (y ∷ ns)
    later None found all = refl
    later (Some x) found all =
        let back = not-after_both y x (found-passes (is_after last) (λ z. is_after (Some y) z) ns x all found) in
        ap (λ (zs : List Named). x ∷ zs) (sym (ap (λ b. cond b (y ∷ names_after (Some x) ns) (names_after (Some x) ns)) back))

-- ---- the next name is the least

pub find-in : (p : Named → Bool) (ns : List Named) (x : Named) → find p ns ≡ Some x → In Named x ns × (p x ≡ true)
find-in p [] x is = cc is
find-in p (y ∷ ns) x is =
    elim (p y) as (λ b. p y ≡ b → cond b (Some y) (find p ns) ≡ Some x → In Named x (y ∷ ns) × (p x ≡ true)) [
      | true ↦ λ passes here. let same : y ≡ x = cc here in (inl same, subst (λ z. p z ≡ true) same passes)
      | false ↦ λ fails there. let found = find-in p ns x there in (inr found.0, found.1)
    ] refl is

pub find-none : (p : Named → Bool) (ns : List Named) (x : Named) → find p ns ≡ None → In Named x ns → p x ≡ false
find-none p [] x is within = absurd within
find-none p (y ∷ ns) x is within =
    elim (p y) as (λ b. p y ≡ b → cond b (Some y) (find p ns) ≡ None → p x ≡ false) [
      | true ↦ λ passes here. cc here
      | false ↦ λ fails there. ⊎_elim (λ same. subst (λ z. p z ≡ false) same fails) (λ later. find-none p ns x there later) within
    ] refl is

in-after : (x y : Named) (ns : List Named) → all_after x ns ≡ true → In Named y ns → is_after (Some x) y ≡ true
in-after x y [] all within = absurd within
in-after x y (z ∷ ns) all within =
    let parts = and_parts (is_after (Some x) z) (all_after x ns) all in
    ⊎_elim (λ same. subst (λ w. is_after (Some x) w ≡ true) same parts.0) (λ later. in-after x y ns parts.1 later) within

first-least : (last : Option Named) (ns : List Named) (x y : Named) → rises ns ≡ true → first_after last ns ≡ Some x → In Named y ns → is_after last y ≡ true → is_after (Some y) x ≡ false
first-least last [] x y up is within after = absurd within
first-least last (z ∷ ns) x y up is within after =
    let parts = and_parts (all_after z ns) (rises ns) up in
    elim (is_after last z) as (λ b. is_after last z ≡ b → cond b (Some z) (first_after last ns) ≡ Some x → is_after (Some y) x ≡ false) [
      | true ↦ λ passes here.
          let same : z ≡ x = cc here in
          subst (λ w. is_after (Some y) w ≡ false) same
          (⊎_elim (λ at. subst (λ w. is_after (Some w) z ≡ false) at (not-after_itself z)) (λ later. not-after_both z y (in-after z y ns parts.0 later)) within)
      | false ↦ λ fails there.
          ⊎_elim (λ at. let both : true ≡ false = sym after ∙ ap (is_after last) (sym at) ∙ fails in cc both)
          (λ later. first-least last ns x y parts.1 there later after) within
    ] refl is

-- ---- the names of a node ascend

-- all names are in directories with greater numbers
abbrev all_above : ℕ → List Named → Bool
all_above k ns = list_all (λ (y : Named). nat_lt k y.0) ns

above_after : (x : Named) (ns : List Named) → all_above x.0 ns ≡ true → all_after x ns ≡ true
above_after x [] all = refl
above_after x (y ∷ ns) all =
    let parts = and_parts (nat_lt x.0 y.0) (all_above x.0 ns) all in
    and_from _ _ (or_left (nat_lt x.0 y.0) _ parts.0) (above_after x ns parts.1)

-- the names of a directory above one of its names
below_after : (n d : ℕ) (name : Bytes) (es : Entries) → below_all by_name name es ≡ true → all_after (d, name) (names_in n es d) ≡ true
below_after n d name [] below = refl
below_after n d name (e ∷ es) below =
    let parts = and_parts (is_lt (by_name name e.0)) (below_all by_name name es) below in
    let rest = below_after n d name es parts.1 in
    elim (e.1 == n) as (λ b. all_after (d, name) (map (λ (x : Bytes × ℕ). (d, x.0)) (cond b (e ∷ filter (λ (x : Bytes × ℕ). x.1 == n) es) (filter (λ (x : Bytes × ℕ). x.1 == n) es))) ≡ true) [
      | true ↦ and_from _ _ (after-same (d, name) (d, e.0) refl parts.0) rest
      | false ↦ rest
    ]

rises_in : (n d : ℕ) (es : Entries) (rest : List Named) → is_sorted by_name es ≡ true → all_above d rest ≡ true → rises rest ≡ true → rises (names_in n es d ++ rest) ≡ true
rises_in n d [] rest sorted above up = up
rises_in n d (e ∷ es) rest sorted above up =
    let parts = and_parts (below_all by_name e.0 es) (is_sorted by_name es) sorted in
    let later = rises_in n d es rest parts.1 above up in
    elim (e.1 == n) as (λ b. rises (map (λ (x : Bytes × ℕ). (d, x.0)) (cond b (e ∷ filter (λ (x : Bytes × ℕ). x.1 == n) es) (filter (λ (x : Bytes × ℕ). x.1 == n) es)) ++ rest) ≡ true) [
      | true ↦
          and_from _ _
          (list_all-append (λ (y : Named). is_after (Some (d, e.0)) y) (names_in n es d) rest
          ∙ and_from _ _ (below_after n d e.0 es parts.0) (above_after (d, e.0) rest above))
          later
      | false ↦ later
    ]

above_in : (n j k : ℕ) (es : Entries) → j < k → all_above j (names_in n es k) ≡ true
above_in n j k [] less = refl
above_in n j k (e ∷ es) less =
    elim (e.1 == n) as (λ b. all_above j (map (λ (x : Bytes × ℕ). (k, x.0)) (cond b (e ∷ filter (λ (x : Bytes × ℕ). x.1 == n) es) (filter (λ (x : Bytes × ℕ). x.1 == n) es))) ≡ true) [
      | true ↦ and_from _ _ (lt-ltb j k less) (above_in n j k es less)
      | false ↦ above_in n j k es less
    ]

above_from : (n j k : ℕ) (xs : Numbered Node) → j < k → all_above j (names_of_nodes n k xs) ≡ true
above_from n j k [] less = refl
above_from n j k (None ∷ xs) less = above_from n j (suc k) xs (omega arith)
above_from n j k (Some node ∷ xs) less =
    list_all-append (λ (y : Named). nat_lt j y.0) (names_in n (entries_of (Some node)) k) (names_of_nodes n (suc k) xs)
    ∙ and_from _ _ (above_in n j k (entries_of (Some node)) less) (above_from n j (suc k) xs (omega arith))

rises_from : (n k : ℕ) (xs : Numbered Node) → ((d : ℕ) → is_sorted by_name (entries_of (at_number xs d)) ≡ true) → rises (names_of_nodes n k xs) ≡ true
rises_from n k [] sorted = refl
rises_from n k (None ∷ xs) sorted = rises_from n (suc k) xs (λ d. sorted (suc d))
rises_from n k (Some node ∷ xs) sorted =
    rises_in n k (entries_of (Some node)) (names_of_nodes n (suc k) xs) (sorted 0) (above_from n k (suc k) xs (omega arith)) (rises_from n (suc k) xs (λ d. sorted (suc d)))

pub names-rise : (t : Tree) → IsOrdered t → (n : ℕ) → rises (names_of t n) ≡ true
names-rise t sorted n = rises_from n 0 t.nodes sorted

-- ---- so the next name is found as the least

module _ (t : Tree) (sorted : IsOrdered t) (n : ℕ) (last : Option Named) where
  abbrev found : Option Named
  found = first_after last (names_of t n)

  least-found : (x : Named) → found ≡ Some x → IsLeastAfter t n last x
  least-found x is =
      let there = find-in (is_after last) (names_of t n) x is in
      record {
        named = in-entry t sorted n x there.0;
        after = there.1;
        least = λ other named after. first-least last (names_of t n) x other (names-rise t sorted n) is (entry-in t n other.0 other.1 named) after;
      }

  by_found : (next o : Option Named) → found ≡ o → IsNextNameOfNode t n last next → next ≡ o
  by_found None None is next = refl
  by_found None (Some x) is next =
      let l = least-found x is in
      let both : true ≡ false = sym l.after ∙ next x l.named in cc both
  by_found (Some x) None is next =
      let isnt = find-none (is_after last) (names_of t n) x is (entry-in t n x.0 x.1 next.named) in
      let both : true ≡ false = sym next.after ∙ isnt in cc both
  by_found (Some x) (Some y) is next =
      let l = least-found y is in
      ap Some (same-named x y (l.least x next.named next.after) (next.least y l.named l.after))

  pub next-found : (next : Option Named) → IsNextNameOfNode t n last next → next ≡ found
  next-found next is = by_found next found refl is

  -- the names that follow the last one are the next name and those that follow it
  pub rest-found : (next : Option Named) → IsNextNameOfNode t n last next → names_after last (names_of t n) ≡ names_from next (names_of t n)
  rest-found next is = after-next last (names_of t n) (names-rise t sorted n) ∙ ap (λ o. names_from o (names_of t n)) (sym (next-found next is))
