use Rattle.std.proofs.Common.{◌∙◌, ap, length, arith}
use Rattle.pv_reduced.specs.Live.{bounds_of, tables_of}
use Rattle.pv_reduced.proofs.LivenessComputation.{lines-given, registers-count}
use Rattle.pv_reduced.proofs.liveness.live_lines.Goals as goal

pub lines_in-requires : goal.lines_in-requires
lines_in-requires c = ap length c.deref.ensures.value ∙ registers-count c.args.program.now _ c.in_ok-tables.ensures

pub returns : goal.returns
returns c =
    lines-given c.args.program.now _ _ _ _ c.lines_in.ensures (ap tables_of c.deref.ensures.value ∙ c.in_ok-tables.ensures) (ap bounds_of c.deref-2.ensures.value ∙ c.in_ok-bounds.ensures) (omega (arith, c.len.ensures.value))
