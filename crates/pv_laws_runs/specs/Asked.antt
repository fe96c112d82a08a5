-- The checks of a run, in terms of the relations of the formats.
use Rattle.std.specs.Prelude.{◌≡◌, ◌↔◌, true, Some, Ok}
use Rattle.pv_model.specs.Machine.{Bytes, EncodesManifest, Manifest, data_blocks, program_of, IsImageOf, empty_tree, Started, bundle_started, image_started, boot}
use Rattle.pv_model.specs.Grammar.Applied.{AppliesAll}
use Rattle.pv_model.specs.Grammar.Texts.{EncodeSchedule, EncodesSchedule}

-- the bytes are an image of a tree on which the machine boots, and the text encodes the schedule
pub record AsksOfImage (image turns : Bytes) (it : Started) : Type 0 where
  pub is_image : IsImageOf image it.state.tree
  pub boots : boot program_of it.state.tree ≡ Some it.state
  pub encoded : EncodesSchedule turns it.schedule

-- the manifest's entries make a tree on which the machine boots, and the lines after the manifest encode the schedule
pub record AsksOfBundle (bytes : Bytes) (it : Started) : Type 0 where
  pub manifest : Manifest
  pub is_manifest : EncodesManifest true bytes manifest
  pub applied : AppliesAll (empty_tree (data_blocks manifest.blocks manifest.inodes) manifest.inodes) manifest.listed.entries it.state.tree
  pub boots : boot program_of it.state.tree ≡ Some it.state
  pub encoded : EncodeSchedule manifest.listed.following it.schedule

-- the checks of a run succeed if and only if these conditions hold
abbrev pub ImagesAreAsked : Type 0
ImagesAreAsked = (image turns : Bytes) (it : Started) → (image_started image turns ≡ Ok it) ↔ AsksOfImage image turns it

abbrev pub BundlesAreAsked : Type 0
BundlesAreAsked = (bytes : Bytes) (it : Started) → (bundle_started bytes ≡ Ok it) ↔ AsksOfBundle bytes it
