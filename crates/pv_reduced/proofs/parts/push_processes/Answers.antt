use Rattle.std.proofs.Common.{sym}
use Rattle.pv_state_encoding.proofs.OfAnswers.ProcessSequence.{fewer-after, next-record}
use Rattle.pv_laws_classes.specs.Canonical.{index_in}
use Rattle.pv_reduced.proofs.StateKeys.{parts-end, parts-next, parts-start}
use Rattle.pv_state_encoding.specs.Groups.{parts_of}
use Rattle.pv_reduced.proofs.parts.push_processes.Goals as goal

pub loop-pid-init : goal.loop-pid-init
loop-pid-init c = parts-start (index_in c.args.order.now) c.args.processes.now (parts_of c.args.parts.now) c.invariant.ensures

pub loop-pid-smaller : goal.loop-pid-smaller
loop-pid-smaller c =
    let rs = c.args.processes.now.processes in
    let next = next-record c.loop-pid.last c.in-Some.pid rs c.invariant.ensures.ascending (sym c.in-Some.ensures) in fewer-after c.loop-pid.last c.in-Some.pid rs next

pub loop-pid-preserved : goal.loop-pid-preserved
loop-pid-preserved c =
    let rs = c.args.processes.now.processes in
    let next = next-record c.loop-pid.last c.in-Some.pid rs c.invariant.ensures.ascending (sym c.in-Some.ensures) in
    parts-next (index_in c.args.order.now) rs c.loop-pid.last c.in-Some.pid _ _ _ next c.loop-pid.invariant c.in_ok-push_process.ensures

pub returns : goal.returns
returns c = parts-end (index_in c.args.order.now) c.args.processes.now.processes c.loop-pid.last _ _ (sym c.in_default.ensures) c.loop-pid.invariant
