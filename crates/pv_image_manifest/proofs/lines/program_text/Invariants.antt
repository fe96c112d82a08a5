use Rattle.pv_image_manifest.proofs.BodyLines.{IsTextSoFar}
use Rattle.pv_image_manifest.proofs.lines.program_text.Given as goal

abbrev pub invariant-loop : goal.invariant-loop
invariant-loop l = IsTextSoFar l.bytes.items l.rest l.counter l.text
