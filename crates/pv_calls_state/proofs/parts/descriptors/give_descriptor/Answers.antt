use Rattle.std.proofs.Common.{ap, sym, ◌∙◌}
use Rattle.std.proofs.lemmas.Result.{IfOk-weaker, on_err_weaker}
use Rattle.pv_model.specs.Machine.{with_number, least_free}
use Rattle.pv_procs.specs.ProcessTable.{process_in}
use Rattle.pv_calls_state.proofs.UncountedChanges.{lent-is}
use Rattle.pv_calls_state.proofs.BorrowedRecords.{same-owned, other-descriptors, given-least}
use Rattle.pv_calls_state.proofs.parts.descriptors.give_descriptor.Goals as goal

pub returns-clause-number : goal.returns-clause-number
returns-clause-number c =
    IfOk-weaker c.give.result _ _
    (λ d least me at. least ∙ ap (λ r. least_free r.descriptors) (lent-is (process_in c.args.processes.now c.args.pid) me c.record_mut.result.now c.record_mut.ensures.value at))
    c.give.ensures.number

pub returns-clause-given : goal.returns-clause-given
returns-clause-given c =
    given-least c.give.result (λ n. with_number c.record_mut.result.now.descriptors n (record { file = c.args.file; close_on_exec = c.args.close_on_exec })) c.give.new.self c.give.ensures.number c.give.ensures.given
    (λ given. other-descriptors c.args.processes.now c.args.pid c.record_mut.result.now c.record_mut.ensures.value c.give.new.self
    (λ ds. with_number ds (least_free ds) (record { file = c.args.file; close_on_exec = c.args.close_on_exec })) given)

pub returns-clause-full : goal.returns-clause-full
returns-clause-full c =
    on_err_weaker c.give.result
    (λ full me at. ap (λ r. least_free r.descriptors) (sym (lent-is (process_in c.args.processes.now c.args.pid) me c.record_mut.result.now c.record_mut.ensures.value at)) ∙ full)
    c.give.ensures.full

pub returns-clause-unchanged : goal.returns-clause-unchanged
returns-clause-unchanged c =
    on_err_weaker c.give.result
    (λ same. same-owned c.args.processes.now c.args.pid c.invariant.ensures.ascending c.requires c.record_mut.result.now c.record_mut.ensures.value _ (ap (λ ds. record c.record_mut.result.now { descriptors = ds }) same))
    c.give.ensures.unchanged
