use Rattle.std.proofs.Common.{false}
use Rattle.pv_model.specs.Machine.{with_number}
use Rattle.pv_calls_state.proofs.BorrowedRecords.{other-descriptors}
use Rattle.pv_calls_state.proofs.parts.descriptors.set_descriptor.Goals as goal

pub returns : goal.returns
returns c =
    other-descriptors c.args.processes.now c.args.pid c.record_mut.result.now c.record_mut.ensures.value c.set.new.self
    (λ ds. with_number ds c.args.number (record { file = c.args.file; close_on_exec = false })) c.set.ensures
