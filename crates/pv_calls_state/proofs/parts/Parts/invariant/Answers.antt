use Rattle.std.proofs.Common.{◌∙◌, ap, sym}
use Rattle.pv_model.specs.Machine.{collect}
use Rattle.pv_calls_state.proofs.CollectionByCounts.{collect-none}
use Rattle.pv_calls_state.proofs.parts.Parts.invariant.Goals as goal

pub returns-clause-collected : goal.returns-clause-collected
returns-clause-collected c =
    let inside = c.self.inside in
    ap collect (sym c.self.view_is) ∙ collect-none inside.tree inside.files inside.processes c.self.invariant c.invariant-2.ensures c.invariant.ensures ∙ c.self.view_is
