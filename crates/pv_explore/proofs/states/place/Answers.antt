use Rattle.std.proofs.Common.{◌∙◌, ap, subst}
use Rattle.std.specs.Prelude.{IfOk}
use Rattle.pv_explore.specs.VisitedStates.{ArePlaced, IsFoundIn, cells_row}
use Rattle.pv_model.specs.Machine.{Bytes}
use Rattle.pv_explore.proofs.states.place.Goals as goal

pub returns-clause-found : goal.returns-clause-found
returns-clause-found c =
    let row_is = c.in_ok-row.ensures ∙ ap cells_row c.deref.ensures.value in
    subst (λ (row : Bytes). IfOk c.place_row.result (IsFoundIn c.args.limit c.args.rows.now c.place_row.new.rows row)) row_is c.place_row.ensures.found

pub returns-clause-placed : goal.returns-clause-placed
returns-clause-placed c =
    let row_is = c.in_ok-row.ensures ∙ ap cells_row c.deref.ensures.value in
    subst (λ (row : Bytes). ArePlaced row c.args.cells c.args.rows.now c.place_row.new.rows c.args.all.now.items c.place_row.new.all.items) row_is c.place_row.ensures.placed
