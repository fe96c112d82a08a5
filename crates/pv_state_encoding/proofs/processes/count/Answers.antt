use Rattle.std.proofs.Common.{sym, arith}
use Rattle.pv_answers.proofs.ProcessSequence.{fewer-after, next-record}
use Rattle.pv_state_encoding.proofs.ProcessGroups.{count-end, count-next, count-start}
use Rattle.pv_state_encoding.proofs.processes.count.Goals as goal

pub loop-pid-init : goal.loop-pid-init
loop-pid-init c = count-start c.args.processes.now c.invariant.ensures

pub overflow_add-count : goal.overflow_add-count
overflow_add-count c =
    let rs = c.args.processes.now.processes in
    let next = next-record c.loop-pid.last c.in-Some.pid rs c.invariant.ensures.ascending (sym c.in-Some.ensures) in
    omega (arith, count-next rs c.loop-pid.last c.in-Some.pid c.loop-pid.count next c.loop-pid.invariant, c.invariant.ensures.count)

pub loop-pid-smaller : goal.loop-pid-smaller
loop-pid-smaller c =
    let rs = c.args.processes.now.processes in
    let next = next-record c.loop-pid.last c.in-Some.pid rs c.invariant.ensures.ascending (sym c.in-Some.ensures) in fewer-after c.loop-pid.last c.in-Some.pid rs next

pub loop-pid-preserved : goal.loop-pid-preserved
loop-pid-preserved c =
    let rs = c.args.processes.now.processes in
    let next = next-record c.loop-pid.last c.in-Some.pid rs c.invariant.ensures.ascending (sym c.in-Some.ensures) in
    count-next rs c.loop-pid.last c.in-Some.pid c.loop-pid.count next c.loop-pid.invariant

pub returns : goal.returns
returns c = count-end c.args.processes.now.processes c.loop-pid.last c.loop-pid.count (sym c.in_default.ensures) c.loop-pid.invariant
