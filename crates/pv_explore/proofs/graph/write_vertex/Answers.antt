use Rattle.std.proofs.Common.{◌∙◌, ap}
use Rattle.pv_streams.proofs.WriterContracts.{or_as, or_both, or_longer, writes_as, writes_both, writes_longer}
use Rattle.pv_streams.proofs.StoppedWriters.{no_memory, stopped, then_stops, unwritten}
use Rattle.pv_explore.specs.Plan.{live_at}
use Rattle.pv_explore.proofs.GraphLines.{steps_left_at, vertex-bytes}
use Rattle.pv_model.specs.Machine.{program_of, State}
use Rattle.pv_explore.proofs.graph.write_vertex.Goals as goal

pub returns-in_err-machine-clause-written : goal.returns-in_err-machine-clause-written
returns-in_err-machine-clause-written g c = no_memory c.from_residual.ensures.1

pub returns-in_err-write_number-clause-written : goal.returns-in_err-write_number-clause-written
returns-in_err-write_number-clause-written g c =
    let is = vertex-bytes c.args.states.now c.args.checkpoints.now c.args.witness.now c.args.tree c.args.number c.in_ok-machine.machine c.in_ok-machine.ensures.at in
    unwritten c.from_residual-in_err-write_number.ensures.1 (writes_as is (writes_longer _ c.in_err-write_number.ensures))

pub returns-in_err-write_state-clause-written : goal.returns-in_err-write_state-clause-written
returns-in_err-write_state-clause-written g c =
    let is = vertex-bytes c.args.states.now c.args.checkpoints.now c.args.witness.now c.args.tree c.args.number c.in_ok-machine.machine c.in_ok-machine.ensures.at in
    unwritten c.from_residual-in_err-write_state.ensures.1
    (writes_as is (writes_both c.in_ok-write_number.ensures (writes_longer _ (writes_longer _ (rw c.parts.ensures.value at c.in_err-write_state.ensures)))))

pub returns-in_err-write_tree-clause-written : goal.returns-in_err-write_tree-clause-written
returns-in_err-write_tree-clause-written g c =
    let is = vertex-bytes c.args.states.now c.args.checkpoints.now c.args.witness.now c.args.tree c.args.number c.in_ok-machine.machine c.in_ok-machine.ensures.at in
    stopped c.from_residual-in_err-write_tree.ensures.1
    (or_as is
    (or_both c.in_ok-write_number.ensures
    (or_longer _ (or_both (rw c.parts.ensures.value at c.in_ok-write_state.ensures) (rw c.parts-2.ensures.value at c.in_err-write_tree.ensures)))))

pub returns-clause-written : goal.returns-clause-written
returns-clause-written g c =
    let is = vertex-bytes c.args.states.now c.args.checkpoints.now c.args.witness.now c.args.tree c.args.number c.in_ok-machine.machine c.in_ok-machine.ensures.at in
    let steps_are = ap (λ (s : State). steps_left_at c.args.states.now s c.args.witness.now (live_at program_of s c.args.witness.now)) (c.release.ensures ∙ c.position.ensures.unchanged) in
    or_as is
    (or_both c.in_ok-write_number.ensures
    (then_stops (or_both (rw c.parts.ensures.value at c.in_ok-write_state.ensures) (rw c.parts-2.ensures.value at c.in_ok-write_tree.ensures)) (or_as steps_are c.write_steps.ensures.written)))
