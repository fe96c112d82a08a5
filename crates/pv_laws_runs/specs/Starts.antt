-- Laws of the inputs that a machine starts from.
use Rattle.std.specs.Prelude.{◌≡◌, ◌⊎◌, IsTrue, Some, Ok}
use Rattle.pv_model.specs.Machine.{Bytes, Manifest, read_manifest, read_bundle, tree_of, program_of, IsImageOf, State, boot, Tree}
use Rattle.pv_laws_answers.specs.OfLawsStates.States.{are_bytes, EncodesPrograms, IsFirstTree, IsValid}

-- a parsed program is valid: at most 256 lines, with each argument in its range
abbrev pub ProgramsAreInRange : Type 0
ProgramsAreInRange = EncodesPrograms program_of

-- bytes parse as a manifest or a bundle that makes the tree
pub record DescribesTree (bytes : Bytes) (t : Tree) : Type 0 where
  pub are_bytes : IsTrue (are_bytes bytes)
  pub manifest : Manifest
  pub read : (read_manifest bytes ≡ Ok manifest) ⊎ (read_bundle bytes ≡ Ok manifest)
  pub tree : tree_of manifest ≡ Ok t

-- the tree of a manifest is a valid first tree
abbrev pub ManifestsMakeFirstTrees : Type 0
ManifestsMakeFirstTrees = (bytes : Bytes) (t : Tree) → DescribesTree bytes t → IsFirstTree t

-- bytes are an image of the tree
pub record HoldsTree (bytes : Bytes) (t : Tree) : Type 0 where
  pub are_bytes : IsTrue (are_bytes bytes)
  pub is_image : IsImageOf bytes t

-- the tree of an image is a valid first tree
abbrev pub ImagesHoldFirstTrees : Type 0
ImagesHoldFirstTrees = (bytes : Bytes) (t : Tree) → HoldsTree bytes t → IsFirstTree t

-- bytes give a first tree: as a manifest or bundle, or as an image
abbrev pub GivesTree : Bytes → Tree → Type 0
GivesTree bytes t = DescribesTree bytes t ⊎ HoldsTree bytes t

-- the state in which a machine starts is valid
abbrev pub BootIsValid : Type 0
BootIsValid = (t : Tree) (s : State) → IsFirstTree t → boot program_of t ≡ Some s → IsValid s
