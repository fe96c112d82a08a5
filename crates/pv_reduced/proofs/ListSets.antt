-- Sets of lists of parts, each stored as a row of part numbers.
use Rattle.std.proofs.Common.{◌≡◌, ◌∙◌, sym, ap, ap₂, subst, ◌≤◌, Bool, true, false, ◌||◌, ◌&&◌, bytes_eq, List, [], ◌∷◌, ◌++◌, get_or, length, map, refl, arith}
use Rattle.std.specs.List.{AllByRecursion, list_any}
use Rattle.std.proofs.lemmas.List.{length-map, map-append}
use Rattle.pv_model.specs.Machine.{Numbers, Bytes}
use Rattle.std.specs.Cmp.{both_ways}
use Rattle.pv_laws_trees.proofs.DirectoryEntries.{bytes_eq-same, bytes_eq-itself}
use Rattle.pv_explore.specs.Rows.{Grew, IsAmong, group_row, number_in}
use Rattle.pv_explore.proofs.StateRows.{all-grew, all-more, get-number, numbers-now, same-number, unpacked-packed}
use Rattle.pv_reduced.specs.declared.part_lists.Addition.{Addition}
use Rattle.pv_reduced.specs.declared.part_lists.Addition.TheVariants.{Known, Full, New}
use Rattle.pv_reduced.specs.Keys.{same_parts}
use Rattle.pv_reduced.specs.Lists.{AreRows, IsListAddedTo, IsRowOf, parts_in_row}
use Rattle.pv_state_encoding.specs.Packed.{packed_all}
use Rattle.pv_state_encoding.proofs.InjectiveEncoding.{packed-apart}

-- ---- equal lists

pub same_parts-itself : (ps : List Bytes) → same_parts ps ps ≡ true
same_parts-itself [] = refl
same_parts-itself (p ∷ ps) = ap₂ (λ a b. a && b) (bytes_eq-itself p) (same_parts-itself ps)

both-true : (a b : Bool) → (a && b) ≡ true → (a ≡ true) × (b ≡ true)
both-true true true is = (refl, refl)
both-true true false is = cc is
both-true false b is = cc is

pub same_parts-same : (ps qs : List Bytes) → same_parts ps qs ≡ true → ps ≡ qs
same_parts-same [] [] is = refl
same_parts-same [] (q ∷ qs) is = cc is
same_parts-same (p ∷ ps) [] is = cc is
same_parts-same (p ∷ ps) (q ∷ qs) is =
    let both = both-true (bytes_eq p q) (same_parts ps qs) is in
    ap₂ (λ (x : Bytes) (xs : List Bytes). x ∷ xs) (bytes_eq-same p q both.0) (same_parts-same ps qs both.1)

-- ---- the row of a list

module _ (parts : List Bytes) where
  gets-each : (list : List Bytes) → AllByRecursion (IsAmong parts) list → map (λ n. get_or parts n []) (map (number_in parts) list) ≡ list
  gets-each [] all = refl
  gets-each (p ∷ list) all = ap₂ (λ (x : Bytes) (xs : List Bytes). x ∷ xs) (get-number parts p all.0) (gets-each list all.1)

  list-back : (list : List Bytes) → AllByRecursion (IsAmong parts) list → parts_in_row parts (group_row parts list) ≡ list
  list-back list all = ap (λ (ns : Numbers). map (λ n. get_or parts n []) ns) (unpacked-packed (map (number_in parts) list)) ∙ gets-each list all

  row-back : (row : Bytes) → (is : IsRowOf parts row) → parts_in_row parts row ≡ is.list
  row-back row is = ap (parts_in_row parts) is.is ∙ list-back is.list is.stored

  tail-is : {X : Type 0} (x y : X) (xs ys : List X) → x ∷ xs ≡ y ∷ ys → (x ≡ y) × (xs ≡ ys)
  tail-is x y xs ys is = (let same : x ≡ y = cc in same, let same : xs ≡ ys = cc in same)

  same-numbers : (list other : List Bytes) → AllByRecursion (IsAmong parts) other → map (number_in parts) list ≡ map (number_in parts) other → list ≡ other
  same-numbers [] [] all same = refl
  same-numbers [] (q ∷ other) all same = cc same
  same-numbers (p ∷ list) [] all same = cc same
  same-numbers (p ∷ list) (q ∷ other) all same =
      let both = tail-is (number_in parts p) (number_in parts q) (map (number_in parts) list) (map (number_in parts) other) same in
      ap₂ (λ (x : Bytes) (xs : List Bytes). x ∷ xs) (same-number parts p q all.0 both.0) (same-numbers list other all.1 both.1)

  -- a stored row is that of a list if and only if the lists are equal
  row-test : (list : List Bytes) (row : Bytes) → IsRowOf parts row → bytes_eq (group_row parts list) row ≡ same_parts list (parts_in_row parts row)
  row-test list row is =
      let back = row-back row is in
      both_ways (bytes_eq (group_row parts list) row) (same_parts list (parts_in_row parts row))
      (λ same.
      let rows : group_row parts list ≡ group_row parts is.list = bytes_eq-same (group_row parts list) row same ∙ is.is in
      let lists : list ≡ is.list = same-numbers list is.list is.stored (packed-apart (map (number_in parts) list) (map (number_in parts) is.list) rows) in
      subst (λ (other : List Bytes). same_parts list other ≡ true) (lists ∙ sym back) (same_parts-itself list))
      (λ same.
      let lists : list ≡ is.list = same_parts-same list (parts_in_row parts row) same ∙ back in
      subst (λ (other : Bytes). bytes_eq (group_row parts list) other ≡ true) (ap (group_row parts) lists ∙ sym is.is) (bytes_eq-itself (group_row parts list)))

  any-row : (list : List Bytes) (rows : List Bytes) → AreRows parts rows → list_any (bytes_eq (group_row parts list)) rows ≡ list_any (same_parts list) (map (parts_in_row parts) rows)
  any-row list [] all = refl
  any-row list (r ∷ rows) all = ap₂ (λ a b. a || b) (row-test list r all.0) (any-row list rows all.1)

-- ---- when more parts are stored

module _ (parts parts_now : List Bytes) (grew : Grew parts parts_now) where
  row-grew : (row : Bytes) → IsRowOf parts row → IsRowOf parts_now row
  row-grew row is = record {
    list = is.list;
    is = is.is ∙ ap packed_all (sym (numbers-now parts parts_now is.list grew is.stored));
    stored = all-grew parts parts_now is.list grew is.stored;
  }

  pub rows-grew : (rows : List Bytes) → AreRows parts rows → AreRows parts_now rows
  rows-grew [] all = tt
  rows-grew (r ∷ rows) all = (row-grew r all.0, rows-grew rows all.1)

  list-grew : (row : Bytes) → IsRowOf parts row → parts_in_row parts_now row ≡ parts_in_row parts row
  unfolding row-grew
  list-grew row is = row-back parts_now row (row-grew row is) ∙ sym (row-back parts row is)

  pub lists-grew : (rows : List Bytes) → AreRows parts rows → map (parts_in_row parts_now) rows ≡ map (parts_in_row parts) rows
  lists-grew [] all = refl
  lists-grew (r ∷ rows) all = ap₂ (λ (x : List Bytes) (xs : List (List Bytes)). x ∷ xs) (list-grew r all.0) (lists-grew rows all.1)

-- ---- one more list

-- the parts of a list were stored, whose row is this
module _ (parts rows : List Bytes) (all : AreRows parts rows) (lists : List (List Bytes)) (lists_are : map (parts_in_row parts) rows ≡ lists)
    (parts_now : List Bytes) (grew : Grew parts parts_now) (list : List Bytes) (stored : AllByRecursion (IsAmong parts_now) list) (row : Bytes) (row_is : row ≡ group_row parts_now list) where
  pub lists-now : map (parts_in_row parts_now) rows ≡ lists
  lists-now = lists-grew parts parts_now grew rows all ∙ lists_are

  pub list-known : (sought : Bytes) → sought ≡ row → list_any (bytes_eq sought) rows ≡ list_any (same_parts list) lists
  list-known sought is =
      ap (λ (r : Bytes). list_any (bytes_eq r) rows) (is ∙ row_is) ∙ any-row parts_now list rows (rows-grew parts parts_now grew rows all)
      ∙ ap (λ (ls : List (List Bytes)). list_any (same_parts list) ls) lists-now

  pub lists-counted : length rows ≡ length lists
  lists-counted = sym (length-map rows (parts_in_row parts)) ∙ ap length lists_are

  pub rows-added : (new : List Bytes) → new ≡ rows ++ row ∷ [] → AreRows parts_now new
  rows-added new is = all-more (IsRowOf parts_now) rows new row is (rows-grew parts parts_now grew rows all) (record { list = list; is = row_is; stored = stored })

  pub lists-added : (new : List Bytes) → new ≡ rows ++ row ∷ [] → map (parts_in_row parts_now) new ≡ lists ++ list ∷ []
  lists-added new is =
      ap (map (parts_in_row parts_now)) is ∙ map-append (parts_in_row parts_now) rows (row ∷ [])
      ∙ ap₂ (λ (ls : List (List Bytes)) (l : List Bytes). ls ++ l ∷ []) lists-now (ap (parts_in_row parts_now) row_is ∙ list-back parts_now list stored)

-- ---- the first list

pub first-list : (list is : List Bytes) (addition : Addition) (old new : List (List Bytes)) → old ≡ [] → list ≡ is → IsListAddedTo 1 list addition old new → new ≡ is ∷ []
first-list list is addition old new none same it = by addition (subst (λ (ls : List (List Bytes)). IsListAddedTo 1 list addition ls new) none it)
  where
    by : (a : Addition) → IsListAddedTo 1 list a [] new → new ≡ is ∷ []
    by Known added = let known : false ≡ true = added.0 in cc known
    by Full added = let past : 1 ≤ 0 = added.1 in absurd (omega (arith, past))
    by New added = added.2 ∙ ap (λ (l : List Bytes). l ∷ []) same
