-- Sets of lists of parts.
use Rattle.std.specs.Prelude.{◌≡◌, ℕ, ◌≤◌, ◌<◌, true, false, List, [], ◌∷◌, ◌++◌, length, map, get_or}
use Rattle.std.specs.List.{AllByRecursion, list_any}
use Rattle.pv_explore.specs.Rows.{IsAmong, group_row, unpacked}
use Rattle.pv_model.specs.Machine.{Bytes}
use Rattle.pv_reduced.specs.declared.part_lists.Addition.{Addition}
use Rattle.pv_reduced.specs.declared.part_lists.Addition.TheVariants.{Known, Full, New}
use Rattle.pv_reduced.specs.Keys.{same_parts}

-- the list of a row, given all parts
abbrev pub parts_in_row : List Bytes → Bytes → List Bytes
parts_in_row parts row = map (λ n. get_or parts n []) (unpacked row)

-- the row of a list of parts that are all stored
pub record IsRowOf (parts : List Bytes) (row : Bytes) : Type 0 where
  pub list : List Bytes
  pub is : row ≡ group_row parts list
  pub stored : AllByRecursion (IsAmong parts) list

abbrev pub AreRows : List Bytes → List Bytes → Type 0
AreRows parts rows = AllByRecursion (IsRowOf parts) rows

-- the result of adding a list to a set with a limit, and the set after that
abbrev pub IsListAddedTo : ℕ → List Bytes → Addition → List (List Bytes) → List (List Bytes) → Type 0
IsListAddedTo limit list Known old new = (list_any (same_parts list) old ≡ true) × (new ≡ old)
IsListAddedTo limit list Full old new = (list_any (same_parts list) old ≡ false) × (limit ≤ length old) × (new ≡ old)
IsListAddedTo limit list New old new = (list_any (same_parts list) old ≡ false) × (length old < limit) × (new ≡ old ++ list ∷ [])
