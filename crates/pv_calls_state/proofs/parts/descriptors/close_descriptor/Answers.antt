use Rattle.std.proofs.Common.{ap, w32, ◌∙◌}
use Rattle.std.specs.Prelude.{option_map, ok_or}
use Rattle.std.proofs.lemmas.Int.{to_z-of_z}
use Rattle.std.proofs.lemmas.Result.{on_ok_weaker, on_err_weaker}
use Rattle.pv_files.specs.Descriptors.{descriptor_under}
use Rattle.pv_model.specs.declared.errno.Errno.TheVariants.{EBADF}
use Rattle.pv_model.specs.Machine.{without_descriptor}
use Rattle.pv_procs.specs.ProcessTable.{process_in}
use Rattle.pv_calls_state.proofs.UncountedChanges.{lent-is}
use Rattle.pv_calls_state.proofs.BorrowedRecords.{same-owned, other-descriptors}
use Rattle.pv_calls_state.proofs.parts.descriptors.close_descriptor.Goals as goal

pub returns-clause-file : goal.returns-clause-file
returns-clause-file c me at =
    c.close.ensures.file
    ∙ ap (λ z. ok_or (option_map (λ e. e.file) (descriptor_under c.record_mut.result.now.descriptors z)) EBADF) (to_z-of_z w32 c.args.d c.ranges.d)
    ∙ ap (λ r. ok_or (option_map (λ e. e.file) (descriptor_under r.descriptors c.args.d)) EBADF) (lent-is (process_in c.args.processes.now c.args.pid) me c.record_mut.result.now c.record_mut.ensures.value at)

pub returns-clause-closed : goal.returns-clause-closed
returns-clause-closed c =
    on_ok_weaker c.close.result
    (λ closed. other-descriptors c.args.processes.now c.args.pid c.record_mut.result.now c.record_mut.ensures.value c.close.new.self (λ ds. without_descriptor ds c.args.d)
    (closed ∙ ap (λ z. without_descriptor c.record_mut.result.now.descriptors z) (to_z-of_z w32 c.args.d c.ranges.d)))
    c.close.ensures.closed

pub returns-clause-unchanged : goal.returns-clause-unchanged
returns-clause-unchanged c =
    on_err_weaker c.close.result
    (λ same. same-owned c.args.processes.now c.args.pid c.invariant.ensures.ascending c.requires c.record_mut.result.now c.record_mut.ensures.value _ (ap (λ ds. record c.record_mut.result.now { descriptors = ds }) same))
    c.close.ensures.unchanged
