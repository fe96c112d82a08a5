-- The entries in slots, sorted by name.
use Rattle.std.proofs.Common.{◌≡◌, ℕ, suc, ◌+◌, Bool, true, false, ◌==◌, cond, List, [], ◌∷◌, map, filter, length, None, Some, bytes_eq, IsPermutation, ap, sym, ◌∙◌, refl, arith}
use Rattle.std.specs.Ordering.{is_eq, eq_by_cmp}
use Rattle.std.specs.declared.cmp.Ordering.TheVariants.{Less, Equal, Greater}
use Rattle.std.specs.FinMap.Entries.{find, put, by_order, is_sorted, find-put, is_sorted-put}
use Rattle.std.specs.List.{list_any, list_all}
use Rattle.std.proofs.lemmas.Bool.{and_parts, or_parts}
use Rattle.std.proofs.lemmas.Cmp.{nat_list_cmp_total}
use Rattle.std.proofs.lemmas.List.{length-map}
use Rattle.std.proofs.lemmas.List.Sorted.{IsPermutation-refl, IsPermutation-trans, IsPermutation-cons, IsPermutation-middle, length_permutation, sum_by-IsPermutation}
use Rattle.std.proofs.lemmas.List.Sums.{sum_by-cons}
use Rattle.std.specs.Prelude.{sum_by}
use Rattle.pv_model.specs.declared.version.Version.{Version}
use Rattle.pv_model.specs.Machine.{Bytes, slot_number, slot_name, appears_twice, Entries, names_in}
use Rattle.pv_model.specs.Mount.{entries_in}
use Rattle.pv_laws_trees.specs.Slots.{entry_in_slot}
use Rattle.pv_laws_trees.proofs.DirectoryEntries.{by_name, ties-bytes_eq, reported, report, list_all-put}

-- an entry inserted under a new name
put-fresh : (name : Bytes) (n : ℕ) (es : Entries) → find by_name name es ≡ None → IsPermutation ((name, n) ∷ es) (put by_name name n es)
put-fresh name n [] none = IsPermutation-refl ((name, n) ∷ [])
put-fresh name n (e ∷ es) none =
    elim (by_name name e.0) as (λ o. cond (is_eq o) (Some e.1) (find by_name name es) ≡ None → IsPermutation ((name, n) ∷ e ∷ es) (by_order o ((name, n) ∷ e ∷ es) ((e.0, n) ∷ es) (e ∷ put by_name name n es))) [
      | Less ↦ λ h. IsPermutation-refl ((name, n) ∷ e ∷ es)
      | Equal ↦ λ h. cc h
      | Greater ↦ λ h.
          IsPermutation-trans ((name, n) ∷ e ∷ es) (e ∷ (name, n) ∷ es) (e ∷ put by_name name n es)
          (IsPermutation-middle ((name, n) ∷ []) e es) (IsPermutation-cons e ((name, n) ∷ es) (put by_name name n es) (put-fresh name n es h))
    ] none

-- the number of elements that pass a test
length-filter : {X : Type 0} (p : X → Bool) (xs : List X) → length (filter p xs) ≡ sum_by (λ x. cond (p x) 1 0) xs
length-filter p [] = refl
length-filter p (x ∷ xs) =
    elim (p x) as (λ b. length (cond b (x ∷ filter p xs) (filter p xs)) ≡ cond b 1 0 + sum_by (λ x. cond (p x) 1 0) xs) [
      | true ↦ omega (arith, length-filter p xs)
      | false ↦ omega (arith, length-filter p xs)
    ]
    ∙ sym (sum_by-cons (λ x. cond (p x) 1 0) x xs)

pub length-filter_permutation : {X : Type 0} (p : X → Bool) (xs ys : List X) → IsPermutation xs ys → length (filter p ys) ≡ length (filter p xs)
length-filter_permutation p xs ys same = length-filter p ys ∙ sum_by-IsPermutation (λ x. cond (p x) 1 0) xs ys same ∙ sym (length-filter p xs)

pub length-filter_map : {X Y : Type 0} (f : X → Y) (p : Y → Bool) (xs : List X) → length (filter p (map f xs)) ≡ length (filter (λ x. p (f x)) xs)
length-filter_map f p [] = refl
length-filter_map f p (x ∷ xs) =
    elim (p (f x)) as (λ b. length (cond b (f x ∷ filter p (map f xs)) (filter p (map f xs))) ≡ length (cond b (x ∷ filter (λ x. p (f x)) xs) (filter (λ x. p (f x)) xs))) [
      | true ↦ ap suc (length-filter_map f p xs)
      | false ↦ length-filter_map f p xs
    ]

-- a name that no slot has is not found
pub missed : (name : Bytes) (slots : List Bytes) → list_any (bytes_eq name) (map slot_name slots) ≡ false → find by_name name (map entry_in_slot slots) ≡ None
missed name [] none = refl
missed name (slot ∷ slots) none =
    let parts = or_parts (bytes_eq name (slot_name slot)) (list_any (bytes_eq name) (map slot_name slots)) none in
    ap (λ b. cond b (Some (slot_number slot)) (find by_name name (map entry_in_slot slots))) (ties-bytes_eq name (slot_name slot) ∙ parts.0) ∙ missed name slots parts.1

module _ (v : Version) (bytes : Bytes) where
  abbrev put_all : List Bytes → Entries
  put_all = entries_in v bytes

  pub find-put_all : (name : Bytes) (slots : List Bytes) → find by_name name (put_all slots) ≡ find by_name name (map entry_in_slot slots)
  find-put_all name [] = refl
  find-put_all name (slot ∷ slots) =
      find-put by_name nat_list_cmp_total name (slot_name slot) (slot_number slot) (put_all slots)
      ∙ ap (cond (eq_by_cmp by_name name (slot_name slot)) (Some (slot_number slot))) (find-put_all name slots)

  pub sorted-put_all : (slots : List Bytes) → is_sorted by_name (put_all slots) ≡ true
  sorted-put_all [] = refl
  sorted-put_all (slot ∷ slots) =
      reported (is_sorted by_name (put_all (slot ∷ slots)))
      (is_sorted-put by_name nat_list_cmp_total (slot_name slot) (slot_number slot) (put_all slots) (report (is_sorted by_name (put_all slots)) (sorted-put_all slots)))

  pub tested-put_all : (test : Bytes → Bool) (slots : List Bytes) → list_all (λ slot. test (slot_name slot)) slots ≡ true → list_all (λ (e : Bytes × ℕ). test e.0) (put_all slots) ≡ true
  tested-put_all test [] all = refl
  tested-put_all test (slot ∷ slots) all =
      let parts = and_parts (test (slot_name slot)) (list_all (λ slot. test (slot_name slot)) slots) all in
      list_all-put test (slot_name slot) (slot_number slot) (put_all slots) parts.0 (tested-put_all test slots parts.1)

  pub permuted : (slots : List Bytes) → appears_twice bytes_eq (map slot_name slots) ≡ false → IsPermutation (map entry_in_slot slots) (put_all slots)
  permuted [] once = IsPermutation-refl []
  permuted (slot ∷ slots) once =
      let parts = or_parts (list_any (bytes_eq (slot_name slot)) (map slot_name slots)) (appears_twice bytes_eq (map slot_name slots)) once in
      IsPermutation-trans (map entry_in_slot (slot ∷ slots)) (entry_in_slot slot ∷ put_all slots) (put_all (slot ∷ slots))
      (IsPermutation-cons (entry_in_slot slot) (map entry_in_slot slots) (put_all slots) (permuted slots parts.1))
      (put-fresh (slot_name slot) (slot_number slot) (put_all slots) (find-put_all (slot_name slot) slots ∙ missed (slot_name slot) slots parts.0))

  -- there is one entry for each slot, and one for each slot of a node
  pub length-put_all : (slots : List Bytes) → appears_twice bytes_eq (map slot_name slots) ≡ false → length (put_all slots) ≡ length slots
  length-put_all slots once = length_permutation (map entry_in_slot slots) (put_all slots) (permuted slots once) ∙ length-map slots entry_in_slot

  pub named-put_all : (n d : ℕ) (slots : List Bytes) → appears_twice bytes_eq (map slot_name slots) ≡ false
      → length (names_in n (put_all slots) d) ≡ length (filter (λ slot. slot_number slot == n) slots)
  named-put_all n d slots once =
      length-map {B = ℕ × Bytes} (filter (λ (e : Bytes × ℕ). e.1 == n) (put_all slots)) (λ e. (d, e.0))
      ∙ length-filter_permutation (λ (e : Bytes × ℕ). e.1 == n) (map entry_in_slot slots) (put_all slots) (permuted slots once)
      ∙ length-filter_map entry_in_slot (λ (e : Bytes × ℕ). e.1 == n) slots
