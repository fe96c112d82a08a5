use Rattle.pv_image_manifest.proofs.BodyLines.{IsPassedSoFar}
use Rattle.pv_image_manifest.proofs.lines.after_lines.Given as goal

abbrev pub invariant-loop : goal.invariant-loop
invariant-loop l = IsPassedSoFar l.rest l.counter l.text
