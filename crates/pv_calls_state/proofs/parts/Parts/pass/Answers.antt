use Rattle.pv_calls_state.proofs.UncountedChanges.{counted-passed, passed-is}
use Rattle.pv_calls_state.proofs.parts.Parts.pass.Goals as goal

pub invariant_of-self : goal.invariant_of-self
invariant_of-self c =
    let i = c.self.inside in
    counted-passed i.tree i.files i.processes c.pass.new.self c.args.pid c.pass.result c.self.invariant c.invariant.ensures.ascending c.pass.ensures.made

pub returns-clause-made : goal.returns-clause-made
returns-clause-made c =
    let i = c.self.inside in
    passed-is i.tree i.files i.processes c.pass.new.self c.args.pid c.args.self.now c.pass.result c.self.view_is c.pass.ensures.made
