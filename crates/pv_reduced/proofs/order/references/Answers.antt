use Rattle.std.proofs.Common.{sym}
use Rattle.pv_state_encoding.proofs.OfAnswers.ProcessSequence.{fewer-after, next-record}
use Rattle.pv_reduced.proofs.DescriptorOrder.{references-end, references-next, references-start}
use Rattle.pv_reduced.proofs.order.references.Goals as goal

pub loop-pid-init : goal.loop-pid-init
loop-pid-init c = references-start c.args.processes.now c.new-order.result.items c.invariant.ensures c.new-order.ensures.items

pub loop-pid-smaller : goal.loop-pid-smaller
loop-pid-smaller c =
    let rs = c.args.processes.now.processes in
    let next = next-record c.loop-pid.last c.in-Some.pid rs c.invariant.ensures.ascending (sym c.in-Some.ensures) in fewer-after c.loop-pid.last c.in-Some.pid rs next

pub loop-pid-preserved : goal.loop-pid-preserved
loop-pid-preserved c =
    let rs = c.args.processes.now.processes in
    let next = next-record c.loop-pid.last c.in-Some.pid rs c.invariant.ensures.ascending (sym c.in-Some.ensures) in
    references-next rs c.loop-pid.last c.in-Some.pid _ _ next c.loop-pid.invariant c.in_ok-push_files_of_process.ensures

pub returns : goal.returns
returns c = references-end c.args.processes.now.processes c.loop-pid.last c.loop-pid.order.items (sym c.in_default.ensures) c.loop-pid.invariant
