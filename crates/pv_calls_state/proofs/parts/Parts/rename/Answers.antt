use Rattle.pv_procs.specs.OfTree.Changes.{moved}
use Rattle.pv_calls_state.proofs.TreeChanges.{after-outcome}
use Rattle.pv_calls_state.proofs.parts.Parts.rename.Goals as goal

pub returns : goal.returns
returns c =
    let i = c.self.inside in
    after-outcome i.tree i.files i.processes c.args.self.now c.self.view_is c.self.invariant c.invariant.ensures (λ t. moved t c.args.from c.args.name.now c.args.to c.args.other.now) c.rename.result c.rename.new.self
    c.rename.ensures.change
