use Rattle.std.proofs.Common.{sym}
use Rattle.pv_answers.proofs.ProcessSequence.{next-record, fewer-after}
use Rattle.pv_answers.proofs.ProcessLines.{lines-all, lines-next, lines-end}
use Rattle.pv_streams.proofs.WriterContracts.{but_after, but_end, but_failed, but_from, writes_failed}
use Rattle.pv_answers.proofs.state.write_state.Goals as goal

pub loop-pid-init : goal.loop-pid-init
loop-pid-init g c = but_from (lines-all c.args.parts.now c.invariant.ensures.processes)

pub returns-in_err-write_process : goal.returns-in_err-write_process
returns-in_err-write_process g c =
    let s = c.args.parts.now in
    let next = next-record c.loop-pid.last c.in-Some.pid s.processes c.invariant.ensures.processes.ascending (sym (rw c.processes.ensures at c.in-Some.ensures)) in
    writes_failed c.from_residual.ensures.0 (but_failed _ c.loop-pid.invariant (lines-next s c.loop-pid.last c.in-Some.pid next) c.in_err-write_process.ensures)

pub loop-pid-smaller : goal.loop-pid-smaller
loop-pid-smaller g c =
    let s = c.args.parts.now in
    let next = next-record c.loop-pid.last c.in-Some.pid s.processes c.invariant.ensures.processes.ascending (sym (rw c.processes.ensures at c.in-Some.ensures)) in
    fewer-after c.loop-pid.last c.in-Some.pid s.processes next

pub loop-pid-preserved : goal.loop-pid-preserved
loop-pid-preserved g c =
    let s = c.args.parts.now in
    let next = next-record c.loop-pid.last c.in-Some.pid s.processes c.invariant.ensures.processes.ascending (sym (rw c.processes.ensures at c.in-Some.ensures)) in
    but_after c.loop-pid.invariant (lines-next s c.loop-pid.last c.in-Some.pid next) c.in_ok-write_process.ensures

pub returns : goal.returns
returns g c = but_end (lines-end c.args.parts.now c.loop-pid.last (sym (rw c.processes.ensures at c.in_default.ensures))) c.loop-pid.invariant
