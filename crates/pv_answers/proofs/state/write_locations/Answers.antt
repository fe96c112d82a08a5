use Rattle.std.proofs.Common.{sym}
use Rattle.pv_answers.proofs.ProcessSequence.{next-record, fewer-after}
use Rattle.pv_answers.proofs.ProcessLines.{locations-all, locations-next, locations-end}
use Rattle.pv_streams.proofs.WriterContracts.{but_after, but_end, but_failed, but_from, writes_failed}
use Rattle.pv_answers.proofs.state.write_locations.Goals as goal

pub loop-pid-init : goal.loop-pid-init
loop-pid-init g c = but_from (locations-all c.args.parts.now c.invariant.ensures.processes)

pub returns-in_err-write_location : goal.returns-in_err-write_location
returns-in_err-write_location g c =
    let s = c.args.parts.now in
    let next = next-record c.loop-pid.last c.in-Some.pid s.processes c.invariant.ensures.processes.ascending (sym (rw c.processes.ensures at c.in-Some.ensures)) in
    writes_failed c.from_residual.ensures.0 (but_failed _ c.loop-pid.invariant (locations-next s c.loop-pid.last c.in-Some.pid next) c.in_err-write_location.ensures)

pub loop-pid-smaller : goal.loop-pid-smaller
loop-pid-smaller g c =
    let s = c.args.parts.now in
    let next = next-record c.loop-pid.last c.in-Some.pid s.processes c.invariant.ensures.processes.ascending (sym (rw c.processes.ensures at c.in-Some.ensures)) in
    fewer-after c.loop-pid.last c.in-Some.pid s.processes next

pub loop-pid-preserved : goal.loop-pid-preserved
loop-pid-preserved g c =
    let s = c.args.parts.now in
    let next = next-record c.loop-pid.last c.in-Some.pid s.processes c.invariant.ensures.processes.ascending (sym (rw c.processes.ensures at c.in-Some.ensures)) in
    but_after c.loop-pid.invariant (locations-next s c.loop-pid.last c.in-Some.pid next) c.in_ok-write_location.ensures

pub returns : goal.returns
returns g c = but_end (locations-end c.args.parts.now c.loop-pid.last (sym (rw c.processes.ensures at c.in_default.ensures))) c.loop-pid.invariant
