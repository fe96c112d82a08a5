use Rattle.pv_reduced.proofs.LivenessComputation.{lines-there, number-within}
use Rattle.pv_reduced.proofs.live_tables.LiveTables.live_line.Goals as goal

pub line_at-requires : goal.line_at-requires
line_at-requires c = number-within _ _ _ _ c.deref.ensures.value c.in_ok-number.ensures.there

pub returns : goal.returns
returns c = c.line_at.ensures c.args.program.now (lines-there _ _ _ c.args.program.now c.deref.ensures.value c.in_ok-number.ensures.there)
