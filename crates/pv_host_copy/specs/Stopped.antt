-- The errors of a copy.
use Rattle.std.specs.Prelude.{◌≡◌, ◌⊎◌, ⊤, ℕ, false, List, [], ◌∷◌, ◌++◌, Option, None, IfSome, Ok, Err}
use Rattle.pv_model.specs.declared.version.Version.{Version}
use Rattle.pv_model.specs.Machine.{Bytes, add_entry, add_entries, path_of, Entry, Tree}
use Rattle.pv_host_copy.specs.declared.fault.CopyStop.{CopyStop}
use Rattle.pv_host_copy.specs.declared.fault.CopyStop.TheVariants as stop
use Rattle.pv_image_manifest.specs.declared.fault.EntryFault.{EntryFault}
use Rattle.pv_host_copy.specs.declared.fault.HostFault.{HostFault}
use Rattle.pv_host_copy.specs.declared.fault.HostFault.TheVariants.{Read, Memory}
use Rattle.pv_host_copy.specs.declared.fault.Refused.{Refused}
use Rattle.pv_image_manifest.specs.Adding.{error_at_line}
use Rattle.pv_host_copy.specs.Gathered.{host_entries_of}
use Rattle.pv_host_copy.specs.Given.{add_missing, merged_entries, is_present}
use Rattle.pv_host_copy.specs.Hosts.{HostEntries}
use Rattle.pv_host_copy.specs.Imported.{IsTreeOf, greatest_tree}

-- an error of a host as one of a copy
abbrev pub copy_stop_of : HostFault → CopyStop
copy_stop_of Read = stop.Read
copy_stop_of Memory = stop.Memory

abbrev pub refused_pair : Refused → Bytes × EntryFault
refused_pair refused = (refused.path.items, refused.fault)

-- an entry cannot be added to the tree of those before it: its path and the reason
pub record IsEntryRefused (entries : List (ℕ × Entry)) (start : Tree) (refused : Bytes × EntryFault) : Type 0 where
  pub earlier : List (ℕ × Entry)
  pub line : ℕ
  pub entry : Entry
  pub later : List (ℕ × Entry)
  pub appears : entries ≡ earlier ++ (line, entry) ∷ later
  pub so_far : Tree
  pub added : add_entries earlier start ≡ Ok so_far
  pub is_fault : add_entry line so_far entry ≡ Err (error_at_line line refused.1)
  pub is_path : path_of entry ≡ refused.0

-- an entry of a host directory cannot be added
abbrev pub IsRefusedOf : Version → HostEntries → Bytes × EntryFault → Type 0
IsRefusedOf v host refused = IsEntryRefused (host_entries_of v host) (greatest_tree v) refused

-- why a directory was not copied; if its entries are known, reading them does not fail
abbrev pub StopsCopy : Version → Option HostEntries → CopyStop → Type 0
StopsCopy v known stop.Read = known ≡ None
StopsCopy v known stop.Memory = ⊤
StopsCopy v known (stop.Entry refused) = IfSome known (λ host. IsRefusedOf v host (refused_pair refused))

-- ---- with the entries of a source

-- an entry of a source cannot be added to the tree of those before it, which lacks it: its path and the reason
pub record IsGivenRefused (given : List (ℕ × Entry)) (start : Tree) (refused : Bytes × EntryFault) : Type 0 where
  pub earlier : List (ℕ × Entry)
  pub line : ℕ
  pub entry : Entry
  pub later : List (ℕ × Entry)
  pub appears : given ≡ earlier ++ (line, entry) ∷ later
  pub so_far : Tree
  pub added : add_missing earlier start ≡ Ok so_far
  pub is_absent : is_present so_far entry ≡ false
  pub is_fault : add_entry line so_far entry ≡ Err (error_at_line line refused.1)
  pub is_path : path_of entry ≡ refused.0

-- why the entries of a source were not added to a tree
abbrev pub StopsGiven : List (ℕ × Entry) → Tree → CopyStop → Type 0
StopsGiven given start stop.Read = ⊥
StopsGiven given start stop.Memory = ⊤
StopsGiven given start (stop.Entry refused) = IsGivenRefused given start (refused_pair refused)

-- an entry of a host directory, or then one of a source, cannot be added
abbrev pub IsRefusedWithSource : Version → List (ℕ × Entry) → HostEntries → Bytes × EntryFault → Type 0
IsRefusedWithSource v given host refused =
    IsRefusedOf v (merged_entries given [] host) refused ⊎ ((t : Tree) × IsTreeOf v (merged_entries given [] host) t × IsGivenRefused given t refused)

-- why a directory was not copied with the entries of a source
abbrev pub StopsMerge : Version → List (ℕ × Entry) → Option HostEntries → CopyStop → Type 0
StopsMerge v given known stop.Read = known ≡ None
StopsMerge v given known stop.Memory = ⊤
StopsMerge v given known (stop.Entry refused) = IfSome known (λ host. IsRefusedWithSource v given host (refused_pair refused))
