use Rattle.std.proofs.Common.{List, subst}
use Rattle.std.specs.Global.{Vec}
use Rattle.pv_explore.specs.VisitedStates.{AreStoredAt, MayKeep}
use Rattle.pv_explore.proofs.VisitedStates.{fine-arrived, fine-grew, fine-made, found-arrived}
use Rattle.pv_explore.proofs.CellsAfterSteps.{led-to}
use Rattle.pv_step_cache.specs.declared.cells.Cell.{Cell}
use Rattle.pv_step_cache.specs.Steps.{texts_in}
use Rattle.pv_explore.proofs.states.States.arrive.Goals as goal

pub invariant_of-self : goal.invariant_of-self
invariant_of-self g c = fine-grew c.self.inside.parts c.self.inside.groups c.cells_after.new.parts c.cells_after.new.groups c.cells_after.ensures.parts_grew c.cells_after.ensures.groups_grew c.self.inside.rows c.self.inside.cells.items c.self.inside.steps.steps.items c.self.invariant

pub invariant_of-self-in_err-keep_made : goal.invariant_of-self-in_err-keep_made
invariant_of-self-in_err-keep_made g c =
    let steps = c.self.inside.steps.steps.items in
    let texts = texts_in c.args.texts.items in
    let by_cells = subst (λ (all : List (Vec Cell)). MayKeep all c.args.number c.args.pid c.deref-3.result.now texts steps c.keep_made.new.steps.steps.items) c.deref-2.ensures.value c.keep_made.ensures in
    let may = subst (λ (cs : List Cell). MayKeep c.self.inside.cells.items c.args.number c.args.pid cs texts steps c.keep_made.new.steps.steps.items) c.deref-3.ensures.value by_cells in
    fine-made c.self.inside.parts c.self.inside.groups c.self.inside.rows c.self.inside.cells.items steps c.self.invariant c.args.self.now c.self.view_is
    c.cells_after.new.parts c.cells_after.new.groups c.cells_after.ensures.parts_grew c.cells_after.ensures.groups_grew c.args.position.now c.in_ok-cells.cells c.in_ok-cells.ensures.cells
    c.args.number c.args.pid texts c.args.inside c.requires c.keep_made.new.steps.steps.items may

pub invariant_of-self-in_err-found : goal.invariant_of-self-in_err-found
invariant_of-self-in_err-found g c =
    let steps = c.self.inside.steps.steps.items in
    let texts = texts_in c.args.texts.items in
    let by_cells = subst (λ (all : List (Vec Cell)). MayKeep all c.args.number c.args.pid c.deref-3.result.now texts steps c.keep_made.new.steps.steps.items) c.deref-2.ensures.value c.keep_made.ensures in
    let may = subst (λ (cs : List Cell). MayKeep c.self.inside.cells.items c.args.number c.args.pid cs texts steps c.keep_made.new.steps.steps.items) c.deref-3.ensures.value by_cells in
    fine-arrived c.self.inside.parts c.self.inside.groups c.self.inside.rows c.self.inside.cells.items steps c.self.invariant c.args.self.now c.self.view_is
    c.cells_after.new.parts c.cells_after.new.groups c.cells_after.ensures.parts_grew c.cells_after.ensures.groups_grew c.args.position.now c.in_ok-cells.cells c.in_ok-cells.ensures.cells
    c.args.number c.args.pid texts c.args.inside c.requires c.keep_made.new.steps.steps.items may c.place.new.rows c.place.new.all.items c.place.ensures.placed

pub invariant_of-self-2 : goal.invariant_of-self-2
invariant_of-self-2 g c =
    let steps = c.self.inside.steps.steps.items in
    let texts = texts_in c.args.texts.items in
    let by_cells = subst (λ (all : List (Vec Cell)). MayKeep all c.args.number c.args.pid c.deref-3.result.now texts steps c.keep_made.new.steps.steps.items) c.deref-2.ensures.value c.keep_made.ensures in
    let may = subst (λ (cs : List Cell). MayKeep c.self.inside.cells.items c.args.number c.args.pid cs texts steps c.keep_made.new.steps.steps.items) c.deref-3.ensures.value by_cells in
    fine-arrived c.self.inside.parts c.self.inside.groups c.self.inside.rows c.self.inside.cells.items steps c.self.invariant c.args.self.now c.self.view_is
    c.cells_after.new.parts c.cells_after.new.groups c.cells_after.ensures.parts_grew c.cells_after.ensures.groups_grew c.args.position.now c.in_ok-cells.cells c.in_ok-cells.ensures.cells
    c.args.number c.args.pid texts c.args.inside c.requires c.keep_made.new.steps.steps.items may c.place.new.rows c.place.new.all.items c.place.ensures.placed

pub returns : goal.returns
returns g c =
    found-arrived c.self.inside.parts c.self.inside.groups c.self.inside.rows c.self.inside.cells.items c.self.inside.steps.steps.items c.self.invariant c.args.self.now c.self.view_is
    c.cells_after.new.parts c.cells_after.new.groups c.cells_after.ensures.parts_grew c.cells_after.ensures.groups_grew c.args.position.now c.in_ok-cells.cells c.in_ok-cells.ensures.cells
    c.args.limit c.place.new.rows c.in_ok-found.found c.in_ok-found.ensures.found

pub cells_after-requires : goal.cells_after-requires
cells_after-requires g c =
    let stored = subst (λ (all : List (Vec Cell)). AreStoredAt all c.args.number c.cells_at-before.result.now) c.deref.ensures.value c.cells_at-before.ensures in
    led-to c.self.inside.parts c.self.inside.groups c.self.inside.rows c.self.inside.cells.items c.self.inside.steps.steps.items c.self.invariant c.args.self.now c.self.view_is
    c.args.number c.args.pid (texts_in c.args.texts.items) c.args.inside c.args.position.now c.cells_at-before.result.now c.requires stored
