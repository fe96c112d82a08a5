use Rattle.std.proofs.Common.{sym, refl}
use Rattle.pv_answers.proofs.ProcessSequence.{fewer-after, next-record}
use Rattle.pv_state_encoding.specs.Encoded.{numbered_encoded, encoded_all, encoded_record}
use Rattle.pv_state_encoding.proofs.ProcessGroups.{records-end, records-next, records-start}
use Rattle.pv_state_encoding.proofs.encoded.push_encoded_processes.Goals as goal

pub loop-pid-init : goal.loop-pid-init
loop-pid-init c = records-start encoded_record c.args.processes.now (encoded_all c.args.encoded.now.items) c.invariant.ensures

pub loop-pid-smaller : goal.loop-pid-smaller
loop-pid-smaller c =
    let rs = c.args.processes.now.processes in
    let next = next-record c.loop-pid.last c.in-Some.pid rs c.invariant.ensures.ascending (sym c.in-Some.ensures) in fewer-after c.loop-pid.last c.in-Some.pid rs next

pub loop-pid-preserved : goal.loop-pid-preserved
loop-pid-preserved c =
    let rs = c.args.processes.now.processes in
    let next = next-record c.loop-pid.last c.in-Some.pid rs c.invariant.ensures.ascending (sym c.in-Some.ensures) in
    records-next encoded_record numbered_encoded (λ pid r. refl) rs c.loop-pid.last c.in-Some.pid _ _ _ _ next c.loop-pid.invariant c.in_ok-encoded_process.ensures c.in_ok-push_encoded.ensures

pub returns : goal.returns
returns c = records-end encoded_record c.args.processes.now.processes c.loop-pid.last _ _ (sym c.in_default.ensures) c.loop-pid.invariant
