use Rattle.std.proofs.Common.{refl}
use Rattle.pv_explore.proofs.VisitedStates.{cells-found}
use Rattle.pv_explore.proofs.states.cells_at.Goals as goal

pub returns-in-Some : goal.returns-in-Some
returns-in-Some c =
    let lookup = c.in-Some.ensures.lookup in
    λ some. (c.in-Some.cells.now, cells-found c.args.cells.now c.args.number c.in-Some.cells.now lookup.0 lookup.1, c.as_slice.ensures.value)
