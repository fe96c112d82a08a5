-- The tree of an input, and the machine that boots on it.
use Rattle.std.specs.Prelude.{◌≡◌, List, Result, Ok, Err}
use Rattle.pv_image_manifest.specs.Reading.{RefusesManifest, manifest_before}
use Rattle.pv_image_manifest.specs.declared.manifest.Manifest.{Manifest as ParsedManifest}
use Rattle.pv_model.specs.declared.fault.ManifestFault.{ManifestFault}
use Rattle.pv_model.specs.declared.fault.ManifestFault.TheVariants.{Form}
use Rattle.pv_model.specs.Machine.{Bytes, Manifest, read_bundle, read_manifest, tree_of, mounted, and_then, booted, State, Tree}
use Rattle.pv_questions.specs.Failures.{failure_of_boot, failure_of_image, failure_of_manifest}
use Rattle.pv_questions.specs.declared.failure.Failure.{Failure}
use Rattle.pv_questions.specs.declared.input.Format.{Format}
use Rattle.pv_questions.specs.declared.input.Format.TheVariants.{Image, Text}

-- a manifest alone, if there is no line `schedule`
abbrev pub or_manifest_alone : Result Manifest ManifestFault → Result Manifest ManifestFault → Result Manifest ManifestFault
or_manifest_alone (Err (Form n)) alone = alone
or_manifest_alone read alone = read

-- the manifest of a bundle, or a manifest alone
unfoldable pub read_manifest_of : Bytes → Result Manifest ManifestFault
read_manifest_of bytes = or_manifest_alone (read_bundle bytes) (read_manifest bytes)

-- the manifest that the code parsed is the one of the definitions, or its error is the same
abbrev pub GivesManifestOf : Result ParsedManifest ManifestFault → Result Manifest ManifestFault → Type 0
GivesManifestOf (Ok m) read = (following : List Bytes) × (read ≡ Ok (manifest_before m following))
GivesManifestOf (Err fault) read = RefusesManifest fault read

-- the manifest in bytes, or its error
abbrev pub manifest_in : Bytes → Result Manifest Failure
manifest_in bytes = and_then failure_of_manifest (read_manifest_of bytes) (λ m. Ok m)

-- the tree of an input; the form and sizes of a manifest are checked first, then its entries
unfoldable pub input_tree : Format → Bytes → Result Tree Failure
input_tree Image bytes = and_then failure_of_image (mounted bytes) (λ t. Ok t)
input_tree Text bytes = and_then failure_of_manifest (read_manifest_of bytes) (λ m. and_then failure_of_manifest (tree_of m) (λ t. Ok t))

-- the machine that boots on it
abbrev pub machine_in : Format → Bytes → Result State Failure
machine_in format bytes = and_then (λ failure. failure) (input_tree format bytes) (λ t. and_then failure_of_boot (booted t) (λ s. Ok s))
