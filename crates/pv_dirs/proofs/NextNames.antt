-- The next name of sorted entries after the last one.
use Rattle.std.proofs.Common.{◌≡◌, ◌≢◌, ℕ, ◌+◌, ◌<◌, ◌++◌, length, take, get_or, Bool, true, false, cond, ◌&&◌, [], ◌∷◌, Option, None, Some, is_some, T, refl, ap, sym, subst, ◌∙◌}
use Rattle.std.proofs.lemmas.List.{take_more}
use Rattle.std.proofs.lemmas.Bool.{and_parts}
use Rattle.std.specs.Ordering.{is_lt, is_some_and, nat_cmp, ordering_reverse}
use Rattle.std.specs.Cmp.Lexicographic.{slice_cmp, slice_partial_cmp, lists_agrees}
use Rattle.std.specs.FinMap.Entries.{find, put, is_sorted, below_all, by_order}
use Rattle.std.specs.declared.cmp.Ordering.{Ordering}
use Rattle.std.specs.declared.cmp.Ordering.TheVariants.{Less, Equal, Greater}
use Rattle.pv_model.specs.Machine.{Bytes, is_past, next_name, Entries}
use Rattle.pv_dirs.specs.Slots.{in_order, IsDistinct}
use Rattle.pv_dirs.specs.Listing.{is_before, IsListedName, IsLeastPast, IsNextName}
use Rattle.pv_dirs.proofs.EntryReplacement.{distinct_before}
use Rattle.pv_dirs.proofs.SortedEntries.{distinct_front, sorted-in_order, find-in_order, in_order-append, by_name, total, same_name, tied, tied-same, tied_itself}

pub less_from : (o : Ordering) → is_lt o ≡ true → o ≡ Less
less_from Less is = refl
less_from Equal is = cc
less_from Greater is = cc

pub greater_from : (a b : Bytes) → by_name a b ≡ Less → by_name b a ≡ Greater
greater_from a b is = total.antisymm b a ∙ ap ordering_reverse is

-- a name that follows one after the last name also follows the last name
after_more : (last : Option Bytes) (a b : Bytes) → is_past last a ≡ true → by_name a b ≡ Less → is_past last b ≡ true
after_more None a b is less = refl
after_more (Some l) a b is less = ap is_lt (total.trans l a b (less_from (by_name l a) is) less)

-- the better of a candidate name and the best name so far
abbrev pub better : Bool → Bytes → Option Bytes → Option Bytes
better false k best = best
better true k None = Some k
better true k (Some b) = cond (is_lt (by_name k b)) (Some k) (Some b)

pub better-is : (b : Bool) (k : Bytes) (best : Option Bytes) → better b k best ≡ cond (is_before k best && b) (Some k) best
better-is false k best = elim (is_before k best) as (λ before. best ≡ cond (before && false) (Some k) best) [ true ↦ refl | false ↦ refl ]
better-is true k None = refl
better-is true k (Some b) = elim (is_lt (by_name k b)) as (λ less. cond less (Some k) (Some b) ≡ cond (less && true) (Some k) (Some b)) [ true ↦ refl | false ↦ refl ]

pub better_least : (b : Bool) (k e : Bytes) → is_lt (by_name k e) ≡ false → Some e ≡ better b k (Some e)
better_least true k e not_less = rw not_less
better_least false k e not_less = refl

put_first : (last : Option Bytes) (k : Bytes) (e : Bytes × ℕ) (es : Entries) → by_name k e.0 ≡ Less → cond (is_past last k) (Some k) (next_name last (e ∷ es)) ≡ better (is_past last k) k (next_name last (e ∷ es))
put_first last k e es less =
    elim (is_past last k) as (λ b. is_past last k ≡ b → cond b (Some k) (next_name last (e ∷ es)) ≡ better b k (next_name last (e ∷ es))) [
      | true ↦ λ is. rw (after_more last k e.0 is less, less)
      | false ↦ λ is. refl
    ] refl

put_same : (last : Option Bytes) (k : Bytes) (e : Bytes × ℕ) (es : Entries) → by_name k e.0 ≡ Equal → next_name last (e ∷ es) ≡ better (is_past last k) k (next_name last (e ∷ es))
put_same last k e es same =
    elim (is_past last e.0) as (λ b. is_past last e.0 ≡ b → cond b (Some e.0) (next_name last es) ≡ better (is_past last k) k (cond b (Some e.0) (next_name last es))) [
      | true ↦ λ is. better_least (is_past last k) k e.0 (ap is_lt same)
      | false ↦ λ is. ap (λ b. better b k (next_name last es)) (sym (ap (is_past last) (same_name k e.0 same) ∙ is))
    ] refl

-- one more entry
pub next_name-put : (last : Option Bytes) (k : Bytes) (v : ℕ) (es : Entries) → next_name last (put by_name k v es) ≡ better (is_past last k) k (next_name last es)
next_name-put last k v [] = elim (is_past last k) as (λ b. cond b (Some k) None ≡ better b k None) [ true ↦ refl | false ↦ refl ]
next_name-put last k v (e ∷ es) =
    elim (by_name k e.0) as (λ r. by_name k e.0 ≡ r → next_name last (by_order r ((k, v) ∷ e ∷ es) ((e.0, v) ∷ es) (e ∷ put by_name k v es)) ≡ better (is_past last k) k (next_name last (e ∷ es))) [
      | Less ↦ λ is. put_first last k e es is
      | Equal ↦ λ is. put_same last k e es is
      | Greater ↦ λ is.
          elim (is_past last e.0) as (λ b. cond b (Some e.0) (next_name last (put by_name k v es)) ≡ better (is_past last k) k (cond b (Some e.0) (next_name last es))) [
            | true ↦ better_least (is_past last k) k e.0 (ap is_lt is)
            | false ↦ next_name-put last k v es
          ]
    ] refl

-- ---- the next name is the least after the last one

from_T : (b : Bool) → T b → b ≡ true
from_T true h = refl
from_T false h = absurd h

-- a name that is listed after one below all entries is not less
listed_above : (x other : Bytes) (es : Entries) → below_all by_name x es ≡ true → IsListedName es other → by_name x other ≡ Less
listed_above x other [] below listed = cc
listed_above x other (e ∷ es) below listed =
    let parts = and_parts _ _ below in
    elim (tied other e.0) as (λ b. tied other e.0 ≡ b → is_some (cond b (Some e.1) (find by_name other es)) ≡ true → by_name x other ≡ Less) [
      | true ↦ λ is there. ap (by_name x) (tied-same other e.0 is) ∙ less_from _ parts.0
      | false ↦ λ is there. listed_above x other es parts.1 there
    ] refl listed

listed_first : (e : Bytes × ℕ) (es : Entries) → IsListedName (e ∷ es) e.0
listed_first e es = ap (λ b. is_some (cond b (Some e.1) (find by_name e.0 es))) (tied_itself e.0)

listed_later : (e : Bytes × ℕ) (es : Entries) (name : Bytes) → IsListedName es name → IsListedName (e ∷ es) name
listed_later e es name listed = elim (tied name e.0) as (λ b. is_some (cond b (Some e.1) (find by_name name es)) ≡ true) [ true ↦ refl | false ↦ listed ]

pub listed_cases : (e : Bytes × ℕ) (es : Entries) (name : Bytes) (P : Type 0) → (name ≡ e.0 → P) → (IsListedName es name → P) → IsListedName (e ∷ es) name → P
listed_cases e es name P first later listed =
    elim (tied name e.0) as (λ b. tied name e.0 ≡ b → is_some (cond b (Some e.1) (find by_name name es)) ≡ true → P) [
      | true ↦ λ is there. first (tied-same name e.0 is)
      | false ↦ λ is there. later there
    ] refl listed

pub same_Equal : (a : Bytes) → by_name a a ≡ Equal
same_Equal a = elim (by_name a a) as (λ r. by_name a a ≡ r → r ≡ Equal) [
  | Less ↦ λ is. let back = total.antisymm a a ∙ ap ordering_reverse is in cc
  | Equal ↦ λ is. refl
  | Greater ↦ λ is. let back = total.antisymm a a ∙ ap ordering_reverse is in cc
] refl

least_first : (last : Option Bytes) (e : Bytes × ℕ) (es : Entries) → below_all by_name e.0 es ≡ true → is_past last e.0 ≡ true → IsLeastPast last (e ∷ es) e.0
least_first last e es below is = record {
  listed = listed_first e es;
  following = is;
  least = λ other listed _ less. listed_cases e es other ⊥
      (λ same. let equal = ap (λ (x : Bytes). by_name x e.0) same ∙ same_Equal e.0 in cc)
      (λ there. let more = greater_from e.0 other (listed_above e.0 other es below there) in cc)
      listed;
}

next_later : (last : Option Bytes) (e : Bytes × ℕ) (es : Entries) (next : Option Bytes) → is_past last e.0 ≡ false → IsNextName last es next → IsNextName last (e ∷ es) next
next_later last e es None not_after none = λ other listed is. listed_cases e es other ⊥ (λ same. let no = ap (is_past last) same ∙ not_after in cc) (λ there. none other there is) listed
next_later last e es (Some name) not_after least = record {
  listed = listed_later e es name least.listed;
  following = least.following;
  least = λ other listed is less. listed_cases e es other ⊥ (λ same. let no = ap (is_past last) same ∙ not_after in cc) (λ there. least.least other there is less) listed;
}

pub next_name_is : (last : Option Bytes) (es : Entries) → is_sorted by_name es ≡ true → IsNextName last es (next_name last es)
next_name_is last [] sorted = λ other listed is. cc
next_name_is last (e ∷ es) sorted =
    let parts = and_parts _ _ sorted in
    elim (is_past last e.0) as (λ b. is_past last e.0 ≡ b → IsNextName last (e ∷ es) (cond b (Some e.0) (next_name last es))) [
      | true ↦ λ is. least_first last e es parts.0 is
      | false ↦ λ is. next_later last e es (next_name last es) is (next_name_is last es parts.1)
    ] refl

-- ---- one more entry of a list

pub next_name-more : (last : Option Bytes) (es : Entries) (k : ℕ) (e : Bytes × ℕ) → IsDistinct es → k < length es → get_or es k e ≡ e
    → next_name last (in_order (take (k + 1) es)) ≡ better (is_past last e.0) e.0 (next_name last (in_order (take k es)))
next_name-more last es k e d within at =
    let more : take (k + 1) es ≡ take k es ++ e ∷ [] = take_more es k e within ∙ ap (λ (x : Bytes × ℕ). take k es ++ x ∷ []) at in
    let absent = (distinct_before (take k es) e (subst IsDistinct more (distinct_front es (k + 1) d))).1 in
    ap (λ (xs : Entries). next_name last (in_order xs)) more
    ∙ ap (next_name last) (in_order-append (take k es) e.0 e.1 absent)
    ∙ next_name-put last e.0 e.1 (in_order (take k es))

pub next_name_in_order : (last : Option Bytes) (es : Entries) → IsNextName last (in_order es) (next_name last (in_order es))
next_name_in_order last es = next_name_is last (in_order es) (from_T (is_sorted by_name (in_order es)) (sorted-in_order es))

-- some entry has the next name
pub next_found : (last : Option Bytes) (es : Entries) (name : Bytes) → Some name ≡ next_name last (in_order es) → find by_name name es ≢ None
next_found last es name is none =
    let least : IsLeastPast last (in_order es) name = subst (IsNextName last (in_order es)) (sym is) (next_name_in_order last es) in
    let no = sym (ap is_some (find-in_order name es ∙ none)) ∙ least.listed in cc

-- ---- iterating over slots

pub bytes_less : (xs ys : Bytes) → is_some_and is_lt (slice_partial_cmp (λ x y. Some (nat_cmp x y)) xs ys) ≡ is_lt (slice_cmp nat_cmp xs ys)
bytes_less xs ys = ap (λ (o : Option Ordering). is_some_and is_lt o) (lists_agrees (λ x y. refl) xs ys)
