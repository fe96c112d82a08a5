use Rattle.pv_explore.proofs.VisitedStates.{fine-unreference}
use Rattle.pv_explore.proofs.states.States.unreference.Goals as goal

pub invariant_of-self : goal.invariant_of-self
invariant_of-self g c = fine-unreference c.self.inside.parts c.self.inside.groups c.self.inside.rows c.self.inside.cells.items c.empty_cells.new.all.items c.self.inside.steps.steps.items c.self.invariant c.empty_cells.ensures
