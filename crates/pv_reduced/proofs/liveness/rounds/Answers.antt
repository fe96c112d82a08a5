use Rattle.std.proofs.Common.{◌≡◌, ◌∙◌, ap, length, arith}
use Rattle.pv_laws_classes.specs.Liveness.{rounds}
use Rattle.pv_reduced.specs.Live.{variable_of}
use Rattle.pv_reduced.proofs.LivenessComputation.{rounds-next, rounds-start}
use Rattle.pv_reduced.proofs.liveness.rounds.Goals as goal

pub loop-init : goal.loop-init
loop-init c = rounds-start c.args.program.now (variable_of c.args.variable) _ c.in_ok-table.ensures

pub loop-preserved : goal.loop-preserved
loop-preserved c = rounds-next c.args.program.now (variable_of c.args.variable) c.loop.counter c.loop.table.items c.deref.result.now _ c.in_ok-table-2.ensures c.deref.ensures.value c.loop.invariant

pub returns : goal.returns
returns c =
    let all : c.loop.counter ≡ length c.args.program.now = omega (arith, c.len-end.ensures.value) in
    c.loop.invariant ∙ ap (rounds c.args.program.now (variable_of c.args.variable)) all
