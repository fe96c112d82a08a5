use Rattle.std.proofs.Common.{sym, refl}
use Rattle.pv_answers.proofs.ProcessSequence.{fewer-after, next-record}
use Rattle.pv_state_encoding.specs.Groups.{groups_of, numbered_parts, record_parts}
use Rattle.pv_state_encoding.proofs.ProcessGroups.{records-end, records-next, records-start}
use Rattle.pv_state_encoding.proofs.processes.push_process_groups.Goals as goal

pub loop-pid-init : goal.loop-pid-init
loop-pid-init c = records-start record_parts c.args.processes.now (groups_of c.args.groups.now.items) c.invariant.ensures

pub loop-pid-smaller : goal.loop-pid-smaller
loop-pid-smaller c =
    let rs = c.args.processes.now.processes in
    let next = next-record c.loop-pid.last c.in-Some.pid rs c.invariant.ensures.ascending (sym c.in-Some.ensures) in fewer-after c.loop-pid.last c.in-Some.pid rs next

pub loop-pid-preserved : goal.loop-pid-preserved
loop-pid-preserved c =
    let rs = c.args.processes.now.processes in
    let next = next-record c.loop-pid.last c.in-Some.pid rs c.invariant.ensures.ascending (sym c.in-Some.ensures) in
    records-next record_parts numbered_parts (λ pid r. refl) rs c.loop-pid.last c.in-Some.pid _ _ _ _ next c.loop-pid.invariant c.in_ok-group_of_process.ensures c.in_ok-push_group.ensures

pub returns : goal.returns
returns c = records-end record_parts c.args.processes.now.processes c.loop-pid.last _ _ (sym c.in_default.ensures) c.loop-pid.invariant
