use Rattle.pv_calls_state.proofs.UncountedChanges.{counted-registered, registered-is}
use Rattle.pv_calls_state.proofs.parts.Parts.step_or_fetch.Goals as goal

pub invariant_of-self : goal.invariant_of-self
invariant_of-self c =
    let i = c.self.inside in
    counted-registered i.tree i.files i.processes c.step_or_fetch.new.self c.args.pid c.step_or_fetch.result c.self.invariant c.invariant.ensures.ascending c.step_or_fetch.ensures

pub returns : goal.returns
returns c =
    let i = c.self.inside in
    registered-is i.tree i.files i.processes c.step_or_fetch.new.self c.args.pid c.args.self.now c.step_or_fetch.result c.self.view_is c.step_or_fetch.ensures
