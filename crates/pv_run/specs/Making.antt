-- The output of making an image.
use Rattle.std.specs.Prelude.{◌≡◌, ⊤, Option, Result, Ok, Err, IfErr, OnOk}
use Rattle.pv_model.specs.declared.fault.ManifestFault.{ManifestFault}
use Rattle.pv_model.specs.declared.fault.ManifestFault.TheVariants.{Memory as ManifestMemory}
use Rattle.pv_model.specs.declared.run_fault.RunFault.{RunFault}
use Rattle.pv_model.specs.declared.run_fault.RunFault.TheVariants.{Manifest, Memory, WriteImage}
use Rattle.pv_model.specs.declared.stream.Sink.{Ghosts as Writing}
use Rattle.pv_model.specs.Machine.{Bytes, read_manifest, tree_of, and_then, Rose, Tree}
use Rattle.pv_image_write.specs.Written.{WritesImageOf, BeginsImageOf}

-- the tree that a manifest makes: its form and sizes are checked first, then its entries
unfoldable pub tree_made : Bytes → Result Tree ManifestFault
tree_made bytes = and_then (λ fault. fault) (read_manifest bytes) (λ manifest. tree_of manifest)

-- the manifest is refused and nothing was written; or a write failed, and a prefix of the image was written
abbrev pub AppearsInManifest : Result Tree ManifestFault → Option Bytes → Option Bytes → RunFault → Type 0
AppearsInManifest made before after WriteImage = BeginsImageOf (λ t. made ≡ Ok t) before after
AppearsInManifest made before after (Manifest fault) = (made ≡ Err fault) × (after ≡ before)
AppearsInManifest made before after fault = after ≡ before

-- the possible errors of making an image; out of memory is not nested in another error
abbrev pub IsMakeError : RunFault → Type 0
IsMakeError (Manifest ManifestMemory) = ⊥
IsMakeError (Manifest fault) = ⊤
IsMakeError Memory = ⊤
IsMakeError WriteImage = ⊤
IsMakeError fault = ⊥

-- nothing was written, unless a write failed
abbrev pub WritesNothingUnlessWritten : Option Bytes → Option Bytes → RunFault → Type 0
WritesNothingUnlessWritten before after WriteImage = ⊤
WritesNothingUnlessWritten before after fault = after ≡ before

-- the image of a manifest was made
pub record MakesImage {W : Type 0} (sink : Writing W) (manifest : Bytes) (old new : W) (result : Result (Unit {0}) RunFault) : Type 0 where
  -- success: the sink received exactly bytes that hold the manifest's tree
  pub made : OnOk result (WritesImageOf (λ t. tree_made manifest ≡ Ok t) (sink.written old) (sink.written new))
  -- failure: the error is the first of the manifest, or the image could not be written completely
  pub refused : IfErr result (AppearsInManifest (tree_made manifest) (sink.written old) (sink.written new))
  pub kind : IfErr result IsMakeError
  pub unwritten : IfErr result (WritesNothingUnlessWritten (sink.written old) (sink.written new))
  pub flushed : OnOk result (sink.buffered new ≡ 0)
  -- a failed write was counted
  pub write : result ≡ Err WriteImage → Rose (sink.failures old) (sink.failures new)
