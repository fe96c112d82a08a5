use Rattle.std.proofs.Common.{sym, subst, List, [], ◌∷◌}
use Rattle.pv_explore.specs.VisitedStates.{AreCellsIn, AreCellsOf}
use Rattle.pv_explore.proofs.CellsAfterSteps.{cells-inside}
use Rattle.pv_step_cache.specs.OfStateEncoding.Encoded.{OwnedGroup}
use Rattle.pv_step_cache.specs.declared.cells.Cell.{Cell}
use Rattle.pv_explore.proofs.after.cells_inside.Goals as goal

pub returns-clause-cells : goal.returns-clause-cells
returns-clause-cells c =
    let one = subst (λ (e : OwnedGroup). AreCellsIn c.learn_cell.new.parts c.learn_cell.new.groups (e ∷ []) (c.in_ok-own.own ∷ [])) c.in_ok-group.ensures c.in_ok-own.ensures.cell in
    subst (λ (cs : List Cell). AreCellsOf c.learn_cell.new.parts c.learn_cell.new.groups c.args.position.now cs) (sym c.in_ok-with_own.ensures)
    (cells-inside c.args.parts.now c.args.groups.now c.learn_cell.new.parts c.learn_cell.new.groups c.learn_cell.ensures.parts_grew c.learn_cell.ensures.groups_grew
    c.args.cells.now c.args.pid c.args.position.now c.in_ok-own.own c.requires.before c.requires.live one)
