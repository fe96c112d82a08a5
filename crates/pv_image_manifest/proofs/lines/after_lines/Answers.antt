use Rattle.pv_image_manifest.proofs.BodyLines.{IsPassedSoFar-start, IsPassedSoFar-step, IsPassedSoFar-none}
use Rattle.pv_image_manifest.proofs.lines.after_lines.Goals as goal

pub loop-init : goal.loop-init
loop-init c = IsPassedSoFar-start c.args.text.now

pub loop-preserved : goal.loop-preserved
loop-preserved c = IsPassedSoFar-step _ _ _ _ _ c.in-Some.ensures.lines c.in-Some.ensures.bytes c.loop.invariant

pub returns-in_default-clause-lines : goal.returns-in_default-clause-lines
returns-in_default-clause-lines c = IsPassedSoFar-none _ _ _ _ c.in_default.ensures.lines c.loop-test.true c.loop.invariant
