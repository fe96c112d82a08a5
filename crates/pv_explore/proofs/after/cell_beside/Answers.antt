use Rattle.std.proofs.Common.{◌∙◌, sym}
use Rattle.pv_explore.proofs.CellsAfterSteps.{cell-other}
use Rattle.pv_explore.proofs.after.cell_beside.Goals as goal

pub returns-in-Some-clause-cell : goal.returns-in-Some-clause-cell
returns-in-Some-clause-cell c =
    cell-other c.args.parts.now c.args.groups.now c.args.cells.now c.args.pid c.args.inside c.args.position.now c.args.other c.in-Some.cell c.requires.before c.parts.ensures.whole c.requires.live
    c.if-other-pid.true (sym c.is_live.ensures ∙ c.if-is_live.true) c.in-Some.ensures
