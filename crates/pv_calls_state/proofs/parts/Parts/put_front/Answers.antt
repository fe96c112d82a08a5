use Rattle.std.proofs.Common.{refl, subst, sym}
use Rattle.pv_calls_state.specs.Counts.{IsCountedUp}
use Rattle.pv_calls_state.proofs.UncountedChanges.{counted-updated_table}
use Rattle.pv_calls_state.proofs.parts.Parts.put_front.Goals as goal

pub invariant_of-self : goal.invariant_of-self
invariant_of-self c =
    subst (λ ps. IsCountedUp c.self.inside.tree c.self.inside.files ps) (sym c.put_front.ensures)
    (counted-updated_table c.self.inside.tree c.self.inside.files c.self.inside.processes c.self.invariant c.invariant.ensures.ascending c.args.pid _
    (λ p at. record { directory = refl; table = refl; descriptors = refl; parent = refl }))
