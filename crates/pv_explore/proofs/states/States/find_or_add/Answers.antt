use Rattle.pv_explore.proofs.VisitedStates.{fine-grew, fine-learnt, found-learnt}
use Rattle.pv_step_cache.specs.OfStateEncoding.Encoded.{encoded_all}
use Rattle.pv_explore.proofs.states.States.find_or_add.Goals as goal

pub invariant_of-self : goal.invariant_of-self
invariant_of-self g c = fine-grew c.self.inside.parts c.self.inside.groups c.learn_cells.new.parts c.learn_cells.new.groups c.learn_cells.ensures.parts_grew c.learn_cells.ensures.groups_grew c.self.inside.rows c.self.inside.cells.items c.self.inside.steps.steps.items c.self.invariant

pub invariant_of-self-in_err-found : goal.invariant_of-self-in_err-found
invariant_of-self-in_err-found g c =
    fine-learnt c.self.inside.parts c.self.inside.groups c.self.inside.rows c.self.inside.cells.items c.self.inside.steps.steps.items c.self.invariant c.args.self.now c.self.view_is
    c.learn_cells.new.parts c.learn_cells.new.groups c.learn_cells.ensures.parts_grew c.learn_cells.ensures.groups_grew (encoded_all c.args.encoded.now) c.in_ok-cells.cells c.in_ok-cells.ensures.cells
    c.requires c.place.new.rows c.place.new.all.items c.place.ensures.placed

pub invariant_of-self-2 : goal.invariant_of-self-2
invariant_of-self-2 g c =
    fine-learnt c.self.inside.parts c.self.inside.groups c.self.inside.rows c.self.inside.cells.items c.self.inside.steps.steps.items c.self.invariant c.args.self.now c.self.view_is
    c.learn_cells.new.parts c.learn_cells.new.groups c.learn_cells.ensures.parts_grew c.learn_cells.ensures.groups_grew (encoded_all c.args.encoded.now) c.in_ok-cells.cells c.in_ok-cells.ensures.cells
    c.requires c.place.new.rows c.place.new.all.items c.place.ensures.placed

pub returns : goal.returns
returns g c =
    found-learnt c.self.inside.parts c.self.inside.groups c.self.inside.rows c.self.inside.cells.items c.self.inside.steps.steps.items c.self.invariant c.args.self.now c.self.view_is
    c.learn_cells.new.parts c.learn_cells.new.groups c.learn_cells.ensures.parts_grew c.learn_cells.ensures.groups_grew (encoded_all c.args.encoded.now) c.in_ok-cells.cells c.in_ok-cells.ensures.cells
    c.args.limit c.place.new.rows c.in_ok-found.found c.in_ok-found.ensures.found
