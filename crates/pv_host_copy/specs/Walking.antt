-- The import of one name.
use Rattle.std.specs.Prelude.{◌≡◌, ⊤, true, false, List, [], ◌∷◌, ◌++◌, Option, None, Some, Result, Ok, Err}
use Rattle.pv_model.specs.Machine.{Bytes}
use Rattle.pv_host_copy.specs.declared.entry.HostNode.{HostNode}
use Rattle.pv_host_copy.specs.declared.entry.HostNode.TheVariants.{Directory, File, Link, Other, Replaced}
use Rattle.pv_host_copy.specs.declared.fault.CopyStop.{CopyStop}
use Rattle.pv_host_copy.specs.declared.importing.Importing.{Importing}
use Rattle.pv_host_copy.specs.declared.walking.OpenDirectory.{OpenDirectory}
use Rattle.pv_host_copy.specs.Gathered.{and_file, and_link, and_skipped}
use Rattle.pv_host_copy.specs.Importing.{Goes, GoesIf, AddsDirectory}

-- a directory is added without its entries and is read next; or it is skipped, or stops the import
abbrev pub TakesDirectory : {D : Type 0} → Bytes → D → Importing → Result (Option (OpenDirectory D)) CopyStop → Importing → Type 0
TakesDirectory path d before (Ok (Some opened)) after = (opened.directory ≡ d) × (opened.path.items ≡ path) × AddsDirectory path before (Ok true) after
TakesDirectory path d before (Ok None) after = AddsDirectory path before (Ok false) after
TakesDirectory path d before (Err s) after = AddsDirectory path before (Err s) after

-- no directory is read next
abbrev pub OpensNone : {D : Type 0} → Result (Option (OpenDirectory D)) CopyStop → Type 0
OpensNone (Ok (Some opened)) = ⊥
OpensNone (Ok None) = ⊤
OpensNone (Err s) = ⊤

-- the node at a path is added, a directory without its entries, or it is skipped, or stops the import; a file is the
-- remaining bytes of its reader; nothing is added if another entry takes the node's place
abbrev pub TakesNode : {D R : Type 0} → (R → Option Bytes) → Bytes → HostNode D R → Importing → Result (Option (OpenDirectory D)) CopyStop → Importing → Type 0
TakesNode bytes_of path (Directory d) before result after = TakesDirectory path d before result after
TakesNode bytes_of path (File identity executable r) before result after = OpensNone result × GoesIf (bytes_of r) (and_file before.version path identity executable) before result after
TakesNode bytes_of path (Link identity text) before result after = OpensNone result × Goes (and_link before.version path identity text.items) before result after
TakesNode bytes_of path (Other why) before result after = OpensNone result × Goes (and_skipped path why) before result after
TakesNode bytes_of path Replaced before result after = OpensNone result × Goes (λ g. g) before result after

-- the directories that are being read, with one more, and the one that was opened below it
abbrev pub and_opened : {D : Type 0} → List (OpenDirectory D) → OpenDirectory D → Option (OpenDirectory D) → List (OpenDirectory D)
and_opened ds directory None = ds ++ directory ∷ []
and_opened ds directory (Some opened) = (ds ++ directory ∷ []) ++ opened ∷ []
