use Rattle.std.proofs.Common.{◌∙◌, ap, max, arith}
use Rattle.pv_reduced.proofs.LivenessComputation.{greatest-end, greatest-next}
use Rattle.pv_reduced.proofs.liveness.greatest_in.Goals as goal

pub loop-bound-init : goal.loop-bound-init
loop-bound-init c = omega arith

pub loop-bound-preserved : goal.loop-bound-preserved
loop-bound-preserved c =
    greatest-next c.args.line c.args.bounds.now c.loop-bound.bound-index c.loop-bound.bytes _ c.bound-item.result c.loop-bound-test.true c.bound-item.is (c.max-bytes.ensures ∙ ap (max c.loop-bound.bytes) c.bound_in.ensures) c.loop-bound.invariant

pub returns : goal.returns
returns c = greatest-end c.args.line c.args.bounds.now c.loop-bound.bound-index c.loop-bound.bytes c.loop-bound-test.false c.loop-bound.invariant
