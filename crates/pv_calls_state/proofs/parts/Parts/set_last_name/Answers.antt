use Rattle.std.proofs.Common.{refl}
use Rattle.pv_calls_state.proofs.UncountedChanges.{counted-changed}
use Rattle.pv_calls_state.proofs.parts.Parts.set_last_name.Goals as goal

pub invariant_of-self : goal.invariant_of-self
invariant_of-self c =
    let i = c.self.inside in
    counted-changed i.tree i.files c.set_last_name.new.self i.processes c.self.invariant c.args.file _ (λ f. refl) c.set_last_name.ensures
