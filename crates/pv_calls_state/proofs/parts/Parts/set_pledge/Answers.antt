use Rattle.std.proofs.Common.{ap}
use Rattle.pv_procs.specs.ProcessTable.{process_in}
use Rattle.pv_calls_state.proofs.UncountedChanges.{counted-updated_table, same-record, lent-is}
use Rattle.pv_calls_state.proofs.parts.Parts.set_pledge.Goals as goal

pub invariant_of-self : goal.invariant_of-self
invariant_of-self c =
    let i = c.self.inside in
    counted-updated_table i.tree i.files i.processes c.self.invariant c.invariant.ensures.ascending c.args.pid _ (λ p at.
    let mine = lent-is (process_in i.processes c.args.pid) p c.record_mut.result.now c.record_mut.ensures.value at in
    same-record p _ (ap (λ r. r.directory) mine) (ap (λ r. r.unveiled.table) mine) (ap (λ r. r.descriptors) mine))
