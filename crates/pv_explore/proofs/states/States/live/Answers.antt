use Rattle.std.proofs.Common.{◌∙◌, ap, subst, sym, List, slice_get}
use Rattle.std.specs.Global.{Vec}
use Rattle.pv_explore.specs.VisitedStates.{HasNumber, group_number}
use Rattle.pv_explore.proofs.VisitedStates.{cells-at, cells-found, cells-there}
use Rattle.pv_step_cache.specs.declared.cells.Cell.{Cell}
use Rattle.pv_step_cache.specs.Edits.{owners}
use Rattle.pv_step_cache.proofs.LiveOwners.{owners-are}
use Rattle.pv_model.specs.Machine.{Bytes}
use Rattle.pv_explore.proofs.states.States.live.Goals as goal

pub returns : goal.returns
returns g c = λ t whole there.
    let number = c.args.number in
    let parts = c.self.inside.parts in
    let groups = c.self.inside.groups in
    let before = c.in-Some.cells.now in
    let lookup = c.in-Some.ensures.lookup in
    let at = ap (λ (cs : List (Vec Cell)). slice_get cs number) (sym c.deref.ensures.value) ∙ cells-found c.deref.result.now number before lookup.0 lookup.1 in
    let some = cells-there before c.is_empty.result c.is_empty.ensures c.if-is_empty.false in
    let is =
    cells-at parts groups c.self.inside.rows c.self.inside.cells.items c.self.inside.steps.steps.items c.self.invariant number before t (subst (λ (keys : List Bytes). HasNumber keys number t) (sym c.self.view_is) there) at some in
    c.in_ok-live_owners.ensures ∙ ap owners (c.deref-2.ensures.value ∙ is.are) ∙ owners-are (group_number parts groups) t whole
