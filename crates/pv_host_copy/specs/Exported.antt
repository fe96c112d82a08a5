-- The steps of an export, and its errors.
use Rattle.std.specs.Prelude.{◌≡◌, ℕ, List, ◌∷◌, ◌++◌, map, Option, None, Some, Result, Ok, Err}
use Rattle.pv_model.specs.Machine.{Bytes, path_of, Entry, make, Node}
use Rattle.pv_host_copy.specs.declared.exporting.ExportStop.{ExportStop}
use Rattle.pv_host_copy.specs.declared.exporting.ExportStop.TheVariants as stop
use Rattle.pv_host_copy.specs.declared.exporting.FirstPath.{FirstPath}
use Rattle.pv_host_copy.specs.declared.target.TargetFault.{TargetFault}
use Rattle.pv_host_copy.specs.declared.target.TargetFault.TheVariants.{Make, Memory}
use Rattle.pv_host_copy.specs.Created.{Creates, LeavesPartialFile, LeavesNext}
use Rattle.pv_host_copy.specs.Encoded.{EncodedEntries, and_all_made, encodes_first}

-- a prefix of these entries was created after the previous ones, and at most a prefix of the next one
pub record MakesPrefix (entries : List Entry) (before after : Option (List Entry)) : Type 0 where
  pub done : List Entry
  pub later : List Entry
  pub appears : entries ≡ done ++ later
  pub are_made : LeavesNext later (and_all_made before done) after

-- all of these entries before one with this path were created, and at most a prefix of that one
pub record MakesUpTo (path : Bytes) (entries : List Entry) (before after : Option (List Entry)) : Type 0 where
  pub done : List Entry
  pub entry : Entry
  pub later : List Entry
  pub appears : entries ≡ done ++ entry ∷ later
  pub is_path : path_of entry ≡ path
  pub are_made : LeavesPartialFile entry (and_all_made before done) after

-- a directory has exactly these entries after the previous ones, or the export stopped
abbrev pub Exports : List Entry → (before : Option (List Entry)) → Result (Unit {0}) ExportStop → (after : Option (List Entry)) → Type 0
Exports entries before (Ok done) after = after ≡ and_all_made before entries
Exports entries before (Err (stop.Make path)) after = MakesUpTo path.items entries before after
Exports entries before (Err stop.Memory) after = MakesPrefix entries before after

-- ---- step by step

abbrev pub path_pair : FirstPath → ℕ × Bytes
path_pair first = (first.node, first.path.items)

-- the entries so far were created, after the previous ones, and their first paths are recorded
pub record AreEntriesMade (start : Option (List Entry)) (s : EncodedEntries) (firsts : List FirstPath) (made : Option (List Entry)) : Type 0 where
  pub paths : map path_pair firsts ≡ s.firsts
  pub entries : made ≡ and_all_made start s.entries

-- a step creates the entries of a change
abbrev pub CreatesEntries : (EncodedEntries → EncodedEntries) → List FirstPath → Option (List Entry) → List FirstPath → Option (List Entry) → Type 0
CreatesEntries change firsts made firsts' made' = (start : Option (List Entry)) (s : EncodedEntries) → AreEntriesMade start s firsts made → AreEntriesMade start (change s) firsts' made'

-- the entries that were created before a step stopped: at a path, or because of lack of memory
abbrev pub StopsAt : List Entry → Option (List Entry) → Option (List Entry) → Bytes → TargetFault → Type 0
StopsAt entries start made path Make = MakesUpTo path entries start made
StopsAt entries start made path Memory = MakesPrefix entries start made

-- a change stopped
abbrev pub StopsExport : (EncodedEntries → EncodedEntries) → List FirstPath → Option (List Entry) → Option (List Entry) → Bytes → TargetFault → Type 0
StopsExport change firsts made made' path fault = (start : Option (List Entry)) (s : EncodedEntries) → AreEntriesMade start s firsts made → StopsAt (change s).entries start made' path fault

-- a change was made, or stopped at this path
abbrev pub MakesEntries : (EncodedEntries → EncodedEntries) → List FirstPath → Option (List Entry) → Result (Unit {0}) TargetFault → List FirstPath → Option (List Entry) → Bytes → Type 0
MakesEntries change firsts made (Ok done) firsts' made' path = CreatesEntries change firsts made firsts' made'
MakesEntries change firsts made (Err fault) firsts' made' path = StopsExport change firsts made made' path fault

-- a node is created at a path, or at most a prefix of it
abbrev pub CreatesNode : Bytes → Option Node → Option (List Entry) → Result (Unit {0}) TargetFault → Option (List Entry) → Type 0
CreatesNode path None made result made' = Unit {0}
CreatesNode path (Some node) made result made' = Creates (make path node) made result made'

-- a node was created at its first path, which was recorded; or that stopped
abbrev pub MakesNew : Bytes → ℕ → Option Node → List FirstPath → Option (List Entry) → Result (Unit {0}) TargetFault → List FirstPath → Option (List Entry) → Type 0
MakesNew path n None firsts made result firsts' made' = Unit {0}
MakesNew path n (Some node) firsts made result firsts' made' = MakesEntries (encodes_first path n node) firsts made result firsts' made' path
