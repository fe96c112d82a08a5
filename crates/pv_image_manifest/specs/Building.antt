-- The results of building the tree of a manifest.
use Rattle.std.specs.Prelude.{◌≡◌, Bool, not, ◌||◌, Result, Ok, Err}
use Rattle.pv_model.specs.declared.fault.ManifestFault.{ManifestFault}
use Rattle.pv_model.specs.Machine.{is_too_long, fits, Tree}
use Rattle.pv_tree.specs.Holding.{HeldTree}
use Rattle.pv_image_manifest.specs.Reading.{RefusesManifest}

-- whether a tree does not fit in its image
abbrev pub lacks_room : Tree → Bool
lacks_room t = is_too_long t || not (fits t)

-- the tree after a step is that of the specification, with the same version and reference counts; or both have the same
-- error
abbrev pub MakesTreeOrError : {X : Type 0} → Result X ManifestFault → Result Tree ManifestFault → HeldTree → HeldTree → Type 0
MakesTreeOrError (Ok done) made before after = (made ≡ Ok after.tree) × (after.tree.version ≡ before.tree.version) × (after.holds ≡ before.holds)
MakesTreeOrError (Err fault) made before after = made ≡ Err fault

-- the store or the error agrees with the specification
abbrev pub GivesStore : Result Tree ManifestFault → Result Tree ManifestFault → Type 0
GivesStore (Ok store) made = made ≡ Ok store
GivesStore (Err fault) made = RefusesManifest fault made
