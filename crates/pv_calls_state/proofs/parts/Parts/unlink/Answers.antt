use Rattle.pv_model.specs.Machine.{without_entry}
use Rattle.pv_calls_state.proofs.TreeChanges.{after-changed}
use Rattle.pv_calls_state.proofs.parts.Parts.unlink.Goals as goal

pub returns : goal.returns
returns c =
    let i = c.self.inside in
    after-changed i.tree i.files i.processes c.args.self.now c.self.view_is c.self.invariant c.invariant.ensures (λ t. without_entry t c.args.directory c.args.name.now) c.unlink.new.self c.unlink.ensures.tree
