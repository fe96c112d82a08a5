-- Iterating over the names of a directory.
use Rattle.std.proofs.Common.{◌≡◌, ℕ, ◌-◌, true, false, cond, [], ◌∷◌, ◌++◌, length, take, drop, codes, Option, None, Some, refl, ap, sym, subst, ◌∙◌, append_assoc, arith, ◌+◌, ◌<◌, ◌≤◌, Bor, ⊎_elim, add-one, length-append, length-drop, drop-cons}
use Rattle.std.specs.Ordering.{is_lt, eq_by_cmp}
use Rattle.std.specs.FinMap.Entries.{find, is_sorted, below_all}
use Rattle.std.specs.declared.cmp.Ordering.TheVariants.{Less}
use Rattle.std.proofs.Math.Seq.{take-append_seam, drop-append_seam}
use Rattle.std.proofs.lemmas.Bool.{and_parts}
use Rattle.std.proofs.lemmas.List.{take_all, drop_all}
use Rattle.std.specs.Option.{option_copied}
use Rattle.std.specs.Slice.{IsGetRangeResult}
use Rattle.pv_model.specs.Machine.{Bytes, is_past, next_name, Entries}
use Rattle.pv_tree.proofs.OfLawsTrees.DirectoryEntries.{by_name, tied_itself, tied-same, find_after}
use Rattle.pv_tree.proofs.OfLawsTrees.NameOrder.{less_from, not_after, not_after_itself, after_more}
use Rattle.pv_listing.specs.Lines.{entries_after, last_name, IsNextChild}

-- all entries above a name follow it
all_past : (name : Bytes) (es : Entries) → below_all by_name name es ≡ true → entries_after (Some name) es ≡ es
all_past name [] below = refl
all_past name (e ∷ es) below =
    let parts = and_parts (is_lt (by_name name e.0)) (below_all by_name name es) below in
    ap (λ b. cond b (e ∷ entries_after (Some name) es) (entries_after (Some name) es)) parts.0 ∙ ap (λ (xs : Entries). e ∷ xs) (all_past name es parts.1)

-- and follow every last name that the name follows
all_past_last : (last : Option Bytes) (name : Bytes) (es : Entries) → is_past last name ≡ true → below_all by_name name es ≡ true → entries_after last es ≡ es
all_past_last last name [] is below = refl
all_past_last last name (e ∷ es) is below =
    let parts = and_parts (is_lt (by_name name e.0)) (below_all by_name name es) below in
    ap (λ b. cond b (e ∷ entries_after last es) (entries_after last es)) (after_more last name e.0 is parts.0)
    ∙ ap (λ (xs : Entries). e ∷ xs) (all_past_last last name es is parts.1)

-- a name that is found among entries above another is above it
found_above : (name other : Bytes) (n : ℕ) (es : Entries) → below_all by_name name es ≡ true → find by_name other es ≡ Some n → by_name name other ≡ Less
found_above name other n [] below found = cc
found_above name other n (e ∷ es) below found =
    let parts = and_parts (is_lt (by_name name e.0)) (below_all by_name name es) below in
    elim (eq_by_cmp by_name other e.0) as (λ b. eq_by_cmp by_name other e.0 ≡ b → cond b (Some e.1) (find by_name other es) ≡ Some n → by_name name other ≡ Less) [
      | true ↦ λ tied here. ap (by_name name) (tied-same other e.0 tied) ∙ less_from (by_name name e.0) parts.0
      | false ↦ λ tied there. found_above name other n es parts.1 there
    ] refl found

-- the entry of the next name, followed by those after it
pub record IsFirst (last : Option Bytes) (es : Entries) (name : Bytes) (n : ℕ) : Type 0 where
  pub first : entries_after last es ≡ (name, n) ∷ entries_after (Some name) es
  pub found : find by_name name es ≡ Some n

first_here : (last : Option Bytes) (e : Bytes × ℕ) (es : Entries) → is_past last e.0 ≡ true → below_all by_name e.0 es ≡ true → IsFirst last (e ∷ es) e.0 e.1
first_here last e es is below = record {
  first =
      ap (λ b. cond b (e ∷ entries_after last es) (entries_after last es)) is
      ∙ ap (λ (xs : Entries). e ∷ xs) (all_past_last last e.0 es is below ∙ sym (all_past e.0 es below)
      ∙ sym (ap (λ b. cond b (e ∷ entries_after (Some e.0) es) (entries_after (Some e.0) es)) (not_after_itself e.0)));
  found = ap (λ b. cond b (Some e.1) (find by_name e.0 es)) (tied_itself e.0);
}

first_later : (last : Option Bytes) (e : Bytes × ℕ) (es : Entries) (name : Bytes) (n : ℕ) → is_past last e.0 ≡ false → is_sorted by_name (e ∷ es) ≡ true
    → IsFirst last es name n → IsFirst last (e ∷ es) name n
first_later last e es name n here sorted later =
    let parts = and_parts (below_all by_name e.0 es) (is_sorted by_name es) sorted in
    record {
      first =
          ap (λ b. cond b (e ∷ entries_after last es) (entries_after last es)) here ∙ later.first
          ∙ ap (λ (xs : Entries). (name, n) ∷ xs)
          (sym (ap (λ b. cond b (e ∷ entries_after (Some name) es) (entries_after (Some name) es)) (not_after e.0 name (found_above e.0 name n es parts.0 later.found))));
      found = (find_after name n e es sorted later.found).1;
    }

pub next-first : (last : Option Bytes) (es : Entries) (name : Bytes) → is_sorted by_name es ≡ true → next_name last es ≡ Some name → (n : ℕ) × IsFirst last es name n
next-first last [] name sorted is = cc
next-first last (e ∷ es) name sorted is =
    let parts = and_parts (below_all by_name e.0 es) (is_sorted by_name es) sorted in
    elim (is_past last e.0) as (λ b. is_past last e.0 ≡ b → cond b (Some e.0) (next_name last es) ≡ Some name → (n : ℕ) × IsFirst last (e ∷ es) name n) [
      | true ↦ λ following here. let same : e.0 ≡ name = cc here in (e.1, subst (λ (k : Bytes). IsFirst last (e ∷ es) k e.1) same (first_here last e es following parts.0))
      | false ↦ λ before there. let later = next-first last es name parts.1 there in (later.0, first_later last e es name later.0 before sorted later.1)
    ] refl is

-- no entry follows if there is no next name
pub next-none : (last : Option Bytes) (es : Entries) → next_name last es ≡ None → entries_after last es ≡ []
next-none last [] is = refl
next-none last (e ∷ es) is =
    elim (is_past last e.0) as (λ b. is_past last e.0 ≡ b → cond b (Some e.0) (next_name last es) ≡ None → cond b (e ∷ entries_after last es) (entries_after last es) ≡ []) [
      | true ↦ λ following here. cc here
      | false ↦ λ before there. next-none last es there
    ] refl is

-- ---- the next name at the end of a path

pub child-none : (es : Entries) (last : Option Bytes) (directory path : Bytes) → next_name last es ≡ None → path ≡ directory → IsNextChild es last directory None path
child-none es last directory path is same = (next-none last es is, same)

pub child-some : (es : Entries) (last : Option Bytes) (directory path name : Bytes) (child : Option ℕ) → is_sorted by_name es ≡ true → next_name last es ≡ Some name
    → child ≡ find by_name name es → path ≡ directory ++ codes "/" ++ name → IsNextChild es last directory child path
child-some es last directory path name child sorted is found same =
    let first = next-first last es name sorted is in
    subst (λ (c : Option ℕ). IsNextChild es last directory c path) (sym (found ∙ first.1.found)) (name, first.1.first, same)

-- the last name of a path
pub last-is : (directory name path : Bytes) (base : ℕ) → length directory ≡ base → path ≡ directory ++ codes "/" ++ name → last_name (drop base path) ≡ Some name
last-is directory name path base long is =
    ap (λ bs. last_name (drop base bs)) (is ∙ append_assoc directory (47 ∷ []) name) ∙ ap (λ k. last_name (drop k (directory ++ 47 ∷ name))) (sym long)
    ∙ ap last_name (drop-append_seam directory (47 ∷ name))

pub front-is : (directory name path : Bytes) (base : ℕ) → length directory ≡ base → path ≡ directory ++ codes "/" ++ name → take base path ≡ directory
front-is directory name path base long is =
    ap (take base) (is ∙ append_assoc directory (47 ∷ []) name) ∙ ap (λ k. take k (directory ++ 47 ∷ name)) (sym long) ∙ take-append_seam directory (47 ∷ name)

-- the bytes after a directory's path and a slash, as a slice of the path
pub last-got : (path : Bytes) (base : ℕ) (got : Option (Bor Bytes)) → base ≤ length path → IsGetRangeResult path (base + 1) (length path) got
    → option_copied got ≡ last_name (drop base path)
last-got path base None within (past, some) =
    let long : length path ≤ base = ⊎_elim (λ (before : length path < base + 1). omega arith) (λ (never : length path < length path). omega arith) past in
    sym (ap last_name (drop_all base path long))
last-got path base (Some x) within (part, is) =
    let inside : base < length path = omega (arith, part.0) in
    ap Some (part.2 ∙ take_all (length path - (base + 1)) (drop (base + 1) path) (omega (arith, length-drop (base + 1) path)) ∙ ap (λ k. drop k path) (add-one base))
    ∙ sym (ap last_name (drop-cons path base 0 inside))

-- all entries follow if there is no last name
pub past-none : (es : Entries) → entries_after None es ≡ es
past-none [] = refl
past-none (e ∷ es) = ap (λ (xs : Entries). e ∷ xs) (past-none es)

pub length-path : (directory name path : Bytes) → path ≡ directory ++ codes "/" ++ name → length directory ≤ length path
length-path directory name path is = omega (arith, ap length is, length-append (directory ++ codes "/") name, length-append directory (codes "/"))
