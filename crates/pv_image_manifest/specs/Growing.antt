-- A tree that grows entry by entry.
use Rattle.std.specs.Prelude.{◌≡◌, [], Option, None, Some, Result, Ok, Err}
use Rattle.pv_model.specs.declared.fault.ManifestFault.{ManifestFault}
use Rattle.pv_model.specs.declared.version.Version.TheVariants.{V1}
use Rattle.pv_model.specs.Machine.{tree_of, Tree}
use Rattle.pv_tree.specs.Holding.{HeldTree, IsUnheld}
use Rattle.pv_image_manifest.specs.declared.manifest.Manifest.{Manifest}
use Rattle.pv_image_manifest.specs.Reading.{manifest_before}

-- the tree is that of the manifest
pub record IsGrown (m : Manifest) (h : HeldTree) : Type 0 where
  pub is : tree_of (manifest_before m []) ≡ Ok h.tree
  pub version : h.tree.version ≡ V1
  pub unheld : IsUnheld h.holds

-- the tree is that of the specification; or there is the same error, and the tree is the old one
abbrev pub Grows : Option ManifestFault → Result Tree ManifestFault → Tree → Tree → Type 0
Grows None made before after = made ≡ Ok after
Grows (Some fault) made before after = (made ≡ Err fault) × (after ≡ before)
