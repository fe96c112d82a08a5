use Rattle.std.proofs.Common.{ap}
use Rattle.std.proofs.lemmas.Result.{on_err_weaker}
use Rattle.pv_calls_state.proofs.BorrowedRecords.{same-owned}
use Rattle.pv_calls_state.proofs.parts.holding.add_entry.Goals as goal

pub returns-clause-unchanged : goal.returns-clause-unchanged
returns-clause-unchanged c =
    on_err_weaker c.add_to_table.result
    (λ same. same-owned c.args.processes.now c.args.pid c.invariant.ensures.ascending c.requires c.record_mut.result.now c.record_mut.ensures.value _ (ap (λ u. record c.record_mut.result.now { unveiled = u }) same))
    c.add_to_table.ensures.unchanged
