use Rattle.std.specs.Prelude.{[], drop}
use Rattle.pv_image_manifest.specs.Reading.{manifest_before}
use Rattle.pv_image_manifest.proofs.EntrySequences.{IsBuiltSoFar}
use Rattle.pv_image_manifest.proofs.building.build.Given as goal

abbrev pub invariant-loop-entry : goal.invariant-loop-entry
invariant-loop-entry l = IsBuiltSoFar (drop l.entry-index l.entry-items) l.tree.value (manifest_before l.manifest [])
