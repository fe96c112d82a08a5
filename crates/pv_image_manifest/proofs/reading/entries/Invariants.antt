use Rattle.std.proofs.Common.{length}
use Rattle.pv_model.specs.Machine.{lines_of}
use Rattle.pv_image_manifest.proofs.ListedEntries.{IsListedSoFar}
use Rattle.pv_image_manifest.proofs.reading.entries.Given as goal

abbrev pub invariant-loop-line : goal.invariant-loop-line
invariant-loop-line l = IsListedSoFar l.in_bundle l.entries.items l.rest l.line_number l.text

abbrev pub decreases-loop-line : goal.decreases-loop-line
decreases-loop-line l = length (lines_of l.rest)
