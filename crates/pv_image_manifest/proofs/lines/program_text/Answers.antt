use Rattle.pv_image_manifest.proofs.BodyLines.{IsTextSoFar-step, IsTextSoFar-short}
use Rattle.pv_image_manifest.proofs.lines.program_text.Goals as goal

pub returns-in_default-clause-fewer : goal.returns-in_default-clause-fewer
returns-in_default-clause-fewer c = IsTextSoFar-short _ c.loop.rest.now c.loop.counter _ _ c.in_default.ensures.lines c.loop-test.true c.loop.invariant

pub loop-preserved : goal.loop-preserved
loop-preserved c =
    rw (c.in_ok-push.ensures.items, c.in_ok-extend_from_slice.ensures.items)
    (IsTextSoFar-step _ _ _ _ _ _ c.in-Some.ensures.lines c.loop.invariant)
