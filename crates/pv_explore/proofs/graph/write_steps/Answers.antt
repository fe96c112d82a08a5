use Rattle.std.proofs.Common.{◌∙◌, ap, map, refl}
use Rattle.std.proofs.lemmas.List.{drop_all}
use Rattle.pv_streams.proofs.WriterContracts.{but_from, or_as}
use Rattle.pv_streams.proofs.StoppedWriters.{but_ends, but_no_memory, but_stopped, but_then, no_memory}
use Rattle.pv_explore.proofs.GraphLines.{graph-step, steps_left_at}
use Rattle.pv_explore.specs.Plan.{state_at}
use Rattle.pv_model.specs.Machine.{program_of, live_processes, State}
use Rattle.pv_explore.proofs.graph.write_steps.Goals as goal

pub returns-in_err-machine-clause-written : goal.returns-in_err-machine-clause-written
returns-in_err-machine-clause-written g c = no_memory c.from_residual.ensures.1

pub returns-in_err-pids-clause-written : goal.returns-in_err-pids-clause-written
returns-in_err-pids-clause-written g c = no_memory c.from_residual-in_err-pids.ensures.1

pub loop-pid-init : goal.loop-pid-init
loop-pid-init g c = record { left = but_from refl; same = c.release.ensures ∙ c.position.ensures.unchanged }

pub returns-in_err-machine-2-clause-written : goal.returns-in_err-machine-2-clause-written
returns-in_err-machine-2-clause-written g c =
    let live = c.as_slice-live.ensures.value ∙ c.in_ok-pids.ensures ∙ ap (λ (t : State). map (λ p. p.0) (live_processes t.processes)) c.in_ok-machine.ensures.at in
    or_as (ap (steps_left_at c.args.states.now c.args.checkpoints.now c.args.witness.now) live) (but_no_memory c.loop-pid.invariant.left c.from_residual-in_err-machine-2.ensures.1)

pub returns-in_err-write_step-clause-written : goal.returns-in_err-write_step-clause-written
returns-in_err-write_step-clause-written g c =
    let live = c.as_slice-live.ensures.value ∙ c.in_ok-pids.ensures ∙ ap (λ (t : State). map (λ p. p.0) (live_processes t.processes)) c.in_ok-machine.ensures.at in
    let at = c.in_ok-machine-2.ensures.at ∙ ap (λ (s : State). state_at program_of s c.args.witness.now) c.loop-pid.invariant.same in
    let is = graph-step c.args.states.now c.args.checkpoints.now c.args.witness.now c.as_slice-live.result.now c.loop-pid.pid-index c.in_ok-machine-2.machine c.loop-pid-test.true at in
    or_as (ap (steps_left_at c.args.states.now c.args.checkpoints.now c.args.witness.now) live)
    (but_stopped c.loop-pid.invariant.left _ c.from_residual-in_err-write_step.ensures.1 is c.in_err-write_step.ensures)

pub loop-pid-preserved : goal.loop-pid-preserved
loop-pid-preserved g c =
    let at = c.in_ok-machine-2.ensures.at ∙ ap (λ (s : State). state_at program_of s c.args.witness.now) c.loop-pid.invariant.same in
    let is = graph-step c.args.states.now c.args.checkpoints.now c.args.witness.now c.as_slice-live.result.now c.loop-pid.pid-index c.in_ok-machine-2.machine c.loop-pid-test.true at in
    record {
      left = but_then c.loop-pid.invariant.left is c.in_ok-write_step.ensures;
      same = c.release-in-loop-pid.ensures ∙ c.position-in-loop-pid.ensures.unchanged ∙ c.loop-pid.invariant.same;
    }

pub returns-clause-written : goal.returns-clause-written
returns-clause-written g c =
    let live = c.as_slice-live.ensures.value ∙ c.in_ok-pids.ensures ∙ ap (λ (t : State). map (λ p. p.0) (live_processes t.processes)) c.in_ok-machine.ensures.at in
    let left = steps_left_at c.args.states.now c.args.checkpoints.now c.args.witness.now in
    or_as (ap left live) (but_ends (ap left (drop_all c.loop-pid.pid-index c.as_slice-live.result.now c.loop-pid-test.false)) c.loop-pid.invariant.left)
