use Rattle.std.proofs.Common.{◌≡◌, ◌∙◌, ap, arith}
use Rattle.pv_reduced.specs.Live.{register_tables, tables_of}
use Rattle.pv_reduced.proofs.LivenessComputation.{registers-next}
use Rattle.pv_reduced.proofs.liveness.register_tables.Goals as goal

pub loop-register-init : goal.loop-register-init
loop-register-init c = ap tables_of c.in_ok-tables.ensures.items

pub loop-register-preserved : goal.loop-register-preserved
loop-register-preserved c = registers-next c.args.program.now c.loop-register.register c.loop-register.tables.items _ _ c.in_ok-push.ensures.items c.in_ok-table.ensures c.loop-register.invariant

pub returns : goal.returns
returns c =
    let all : c.loop-register.register ≡ 8 = omega arith in
    c.loop-register.invariant ∙ ap (register_tables c.args.program.now) all
