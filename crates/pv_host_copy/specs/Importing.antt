-- The state of an import, and its steps.
use Rattle.std.specs.Prelude.{◌≡◌, ⊤, if◌then◌else◌, Bool, true, false, [], map, Option, None, Result, Ok, Err, IfSome}
use Rattle.pv_model.specs.Machine.{Bytes, add_entries, make, Node, Tree, directory_node}
use Rattle.pv_host_copy.specs.declared.entry.Identity.{Identity}
use Rattle.pv_host_copy.specs.declared.fault.CopyStop.{CopyStop}
use Rattle.pv_host_copy.specs.declared.fault.CopyStop.TheVariants as stop
use Rattle.pv_image_manifest.specs.declared.fault.EntryFault.{EntryFault}
use Rattle.pv_host_copy.specs.declared.fault.SkipReason.{SkipReason}
use Rattle.pv_host_copy.specs.declared.fault.SkipReason.TheVariants.{Name}
use Rattle.pv_host_copy.specs.declared.importing.Importing.{Importing}
use Rattle.pv_host_copy.specs.Firsts.{identity_and_path, skipped_pair}
use Rattle.pv_host_copy.specs.Gathered.{Gathered, and_entry, and_linked, and_skipped, first_path_of}
use Rattle.pv_image_manifest.specs.Paths.{is_path}
use Rattle.pv_host_copy.specs.Stopped.{IsEntryRefused, refused_pair}

-- the tree is that of the gathered entries, added to a start tree; the first paths and the skipped paths are those
-- gathered
pub record HoldsGathered (start : Tree) (g : Gathered) (i : Importing) : Type 0 where
  pub tree : add_entries g.entries start ≡ Ok i.tree.value.tree
  pub firsts : map identity_and_path i.firsts.items ≡ g.firsts
  pub reported : map skipped_pair i.reported.items ≡ g.reported

-- a step applies a change to the state
abbrev pub Steps : (Gathered → Gathered) → Importing → Importing → Type 0
Steps change before after = (start : Tree) (g : Gathered) → HoldsGathered start g before → HoldsGathered start (change g) after

-- an entry of that change cannot be added
abbrev pub Refuses : (Gathered → Gathered) → Importing → Bytes × EntryFault → Type 0
Refuses change before refused = (start : Tree) (g : Gathered) → HoldsGathered start g before → IsEntryRefused (change g).entries start refused

-- the error of a change that reads nothing from the host
abbrev pub StopsImport : (Gathered → Gathered) → Importing → CopyStop → Type 0
StopsImport change before (stop.Entry refused) = Refuses change before (refused_pair refused)
StopsImport change before stop.Memory = ⊤
StopsImport change before stop.Read = ⊥

-- such a change was made, or stopped
abbrev pub Goes : {X : Type 0} → (Gathered → Gathered) → Importing → Result X CopyStop → Importing → Type 0
Goes change before (Ok done) after = Steps change before after
Goes change before (Err s) after = StopsImport change before s

-- the error of a change that reads from the host; if the contents of the host are known, reading them does not fail
abbrev pub StopsIf : {A : Type 0} → Option A → (A → Gathered → Gathered) → Importing → CopyStop → Type 0
StopsIf known change before (stop.Entry refused) = IfSome known (λ a. Refuses (change a) before (refused_pair refused))
StopsIf known change before stop.Memory = ⊤
StopsIf known change before stop.Read = known ≡ None

-- such a change was made, if it is known, or stopped
abbrev pub GoesIf : {A X : Type 0} → Option A → (A → Gathered → Gathered) → Importing → Result X CopyStop → Importing → Type 0
GoesIf known change before (Ok done) after = IfSome known (λ a. Steps (change a) before after)
GoesIf known change before (Err s) after = StopsIf known change before s

-- a file or symbolic link is handled before its contents are read, whatever they are; or it is new and has a valid
-- path, and nothing changed
abbrev pub Settles : Bytes → Identity → Importing → Result Bool CopyStop → Importing → Type 0
Settles path identity before (Ok true) after =
    (node : Node) (has_place : Bool) (why : SkipReason) → Steps (and_linked before.version path identity node has_place why) before after
Settles path identity before (Ok false) after =
    (is_path before.version path ≡ true) × (first_path_of identity (map identity_and_path before.firsts.items) ≡ None) × (after ≡ before)
Settles path identity before (Err s) after =
    (node : Node) (has_place : Bool) (why : SkipReason) → StopsImport (and_linked before.version path identity node has_place why) before s

-- a directory is added, or skipped
abbrev pub AddsDirectory : Bytes → Importing → Result Bool CopyStop → Importing → Type 0
AddsDirectory path before (Ok true) after = (is_path before.version path ≡ true) × Steps (and_entry (make path (directory_node []))) before after
AddsDirectory path before (Ok false) after = (is_path before.version path ≡ false) × Steps (and_skipped path Name) before after
AddsDirectory path before (Err s) after = StopsImport (λ g. if is_path before.version path then and_entry (make path (directory_node [])) g else g) before s
