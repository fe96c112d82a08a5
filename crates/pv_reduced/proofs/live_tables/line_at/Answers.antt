use Rattle.pv_reduced.proofs.LivenessComputation.{lines-of}
use Rattle.pv_reduced.proofs.live_tables.line_at.Goals as goal

pub returns : goal.returns
returns c = λ program is.
    c.live_at.ensures program (lines-of c.args.lines.now c.args.number c.index-lines-number.result _ _ c.requires c.index-lines-number.is c.deref.ensures.value is)
