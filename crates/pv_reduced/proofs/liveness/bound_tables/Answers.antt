use Rattle.std.proofs.Common.{sym, arith}
use Rattle.pv_reduced.proofs.LivenessComputation.{bounds-end, bounds-next, bounds-start, line-within}
use Rattle.pv_reduced.proofs.liveness.bound_tables.Goals as goal

pub loop-instruction-init : goal.loop-instruction-init
loop-instruction-init c = bounds-start c.args.program.now _ c.in_ok-bounds.ensures.items

pub overflow_add-line : goal.overflow_add-line
overflow_add-line c =
    omega (arith, line-within c.args.program.now c.loop-instruction.line c.in-Some.instruction.now (sym c.in-Some.ensures), c.len.ensures.value, c.len.ensures.few)

pub loop-instruction-smaller : goal.loop-instruction-smaller
loop-instruction-smaller c = omega (arith, line-within c.args.program.now c.loop-instruction.line c.in-Some.instruction.now (sym c.in-Some.ensures))

pub loop-instruction-preserved : goal.loop-instruction-preserved
loop-instruction-preserved c =
    bounds-next c.args.program.now c.loop-instruction.line c.in-Some.instruction.now _ _ _ (sym c.in-Some.ensures) c.in_ok-bound.ensures c.in_ok-push.ensures.items c.loop-instruction.invariant

pub returns : goal.returns
returns c = bounds-end c.args.program.now c.loop-instruction.line c.loop-instruction.bounds.items (sym c.in_default.ensures) c.loop-instruction.invariant
