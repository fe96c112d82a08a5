use Rattle.std.proofs.Common.{◌∙◌, sym, ap, arith}
use Rattle.pv_laws_classes.specs.Liveness.{is_needed}
use Rattle.pv_reduced.specs.Live.{variable_of}
use Rattle.pv_reduced.proofs.LivenessComputation.{line-within, lines-end, lines-next, lines-start}
use Rattle.pv_reduced.proofs.liveness.next_table.Goals as goal

pub loop-instruction-init : goal.loop-instruction-init
loop-instruction-init c = lines-start c.args.program.now (variable_of c.args.variable) c.args.table.now _ c.in_ok-next.ensures.items

pub overflow_add-line : goal.overflow_add-line
overflow_add-line c =
    omega (arith, line-within c.args.program.now c.loop-instruction.line c.in-Some.instruction.now (sym c.in-Some.ensures), c.len.ensures.value, c.len.ensures.few)

pub loop-instruction-smaller : goal.loop-instruction-smaller
loop-instruction-smaller c = omega (arith, line-within c.args.program.now c.loop-instruction.line c.in-Some.instruction.now (sym c.in-Some.ensures))

pub loop-instruction-preserved : goal.loop-instruction-preserved
loop-instruction-preserved c =
    lines-next c.args.program.now (variable_of c.args.variable) c.args.table.now c.loop-instruction.line c.in-Some.instruction.now _ _ _ (sym c.in-Some.ensures) (c.is_needed.ensures ∙ ap (λ n. is_needed c.args.program.now (variable_of c.args.variable) c.args.table.now n c.in-Some.instruction.now) c.from.ensures) c.in_ok-push.ensures.items c.loop-instruction.invariant

pub returns : goal.returns
returns c = lines-end c.args.program.now (variable_of c.args.variable) c.args.table.now c.loop-instruction.line c.loop-instruction.next.items (sym c.in_default.ensures) c.loop-instruction.invariant
