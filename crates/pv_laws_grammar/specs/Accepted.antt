-- The texts that the machine accepts: manifests and bundles.
use Rattle.std.specs.Prelude.{◌≡◌, ◌⊎◌, true, codes, Ok}
use Rattle.std.specs.List.{AllByRecursion}
use Rattle.pv_model.specs.Machine.{Bytes, lines_of, Manifest, read_manifest, read_bundle, path_of, tree_of, read_program, schedule_of_lines, ended, Entry, make, Program, Schedule, Tree, file_node}

-- an entry with the path `/init` is an executable file whose bytes are a program
abbrev pub IsValidInit : Entry → Type 0
IsValidInit e = path_of e ≡ codes "/init" → (bytes : Bytes) × (program : Program) × (e ≡ make (codes "/init") (file_node true bytes)) × (read_program bytes ≡ Ok program)

-- the entries of a manifest make a tree, and `/init` is a program
pub record AreValidEntries (m : Manifest) : Type 0 where
  pub tree : Tree
  pub made : tree_of m ≡ Ok tree
  pub init : AllByRecursion (λ e. IsValidInit e.1) m.listed.entries

pub record IsBundle (text : Bytes) : Type 0 where
  pub manifest : Manifest
  pub schedule : Schedule
  pub read : read_bundle text ≡ Ok manifest
  pub right : AreValidEntries manifest
  pub turns : schedule_of_lines manifest.listed.following ≡ Ok schedule

pub record IsManifest (text : Bytes) : Type 0 where
  pub manifest : Manifest
  pub read : read_manifest text ≡ Ok manifest
  pub right : AreValidEntries manifest

abbrev pub IsAcceptedText : Bytes → Type 0
IsAcceptedText text = IsBundle text ⊎ IsManifest text

-- each line of a text ends with an LF
abbrev pub HasLineEnds : Bytes → Type 0
HasLineEnds text = text ≡ ended (lines_of text)
