-- A tree with an added entry.
use Rattle.std.specs.Prelude.{◌≡◌, ℕ, Result, Ok, Err}
use Rattle.pv_model.specs.declared.fault.ManifestFault.{ManifestFault}
use Rattle.pv_model.specs.declared.fault.ManifestFault.TheVariants.{Parent as NoParent, Exists as IsThere, Source as NoSource, Room as NoRoom}
use Rattle.pv_model.specs.Machine.{Tree}
use Rattle.pv_image_manifest.specs.declared.fault.EntryFault.{EntryFault}
use Rattle.pv_image_manifest.specs.declared.fault.EntryFault.TheVariants.{Parent, Exists, Source, Room}

-- the error of a line of a manifest
abbrev pub error_at_line : ℕ → EntryFault → ManifestFault
error_at_line line Parent = NoParent line
error_at_line line Exists = IsThere line
error_at_line line Source = NoSource line
error_at_line line Room = NoRoom line

-- the tree after a step is that of the specification for every line number; or both have the same error
abbrev pub Gives : {X : Type 0} → Result X EntryFault → (ℕ → Result Tree ManifestFault) → Tree → Type 0
Gives (Ok done) made after = (line : ℕ) → made line ≡ Ok after
Gives (Err fault) made after = (line : ℕ) → made line ≡ Err (error_at_line line fault)
