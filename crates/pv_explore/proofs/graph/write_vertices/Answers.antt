use Rattle.std.proofs.Common.{◌≤◌, ◌∙◌, Some, ap, arith, length, refl, sym}
use Rattle.pv_streams.proofs.WriterContracts.{but_from}
use Rattle.pv_streams.proofs.StoppedWriters.{but_ends, but_no_memory, but_stopped, but_then, no_memory}
use Rattle.pv_explore.specs.Searches.{visited_of}
use Rattle.pv_explore.specs.Witnesses.{witness_of}
use Rattle.pv_explore.proofs.GraphLines.{vertices-next, vertices-none, vertices-past}
use Rattle.pv_explore.proofs.graph.write_vertices.Goals as goal

pub returns-in_err-line_buffer : goal.returns-in_err-line_buffer
returns-in_err-line_buffer g c = no_memory c.from_residual.ensures.1

pub loop-number-init : goal.loop-number-init
loop-number-init g c = record { left = but_from refl; same = c.new-checkpoints.ensures }

pub returns-in_err-witness : goal.returns-in_err-witness
returns-in_err-witness g c = but_no_memory c.loop-number.invariant.left c.from_residual-in_err-witness.ensures.1

pub returns-in_default : goal.returns-in_default
returns-in_default g c =
    let none = vertices-none c.args.search.now.states c.args.first_machine.now c.args.tree (visited_of c.args.search.now).witnesses c.loop-number.number (sym c.in_ok-witness.ensures ∙ ap witness_of c.in_default.is) in
    but_ends none c.loop-number.invariant.left

pub returns-in_err-write_vertex : goal.returns-in_err-write_vertex
returns-in_err-write_vertex g c =
    let at = sym c.in_ok-witness.ensures ∙ ap witness_of c.in-Some.is ∙ ap Some (sym c.deref.ensures.value) in
    let is = vertices-next c.args.search.now.states c.args.first_machine.now c.args.tree (visited_of c.args.search.now).witnesses c.loop-number.number c.deref.result.now at in
    but_stopped c.loop-number.invariant.left _ c.from_residual-in_err-write_vertex.ensures.1 is (rw c.loop-number.invariant.same at c.in_err-write_vertex.ensures.written)

pub loop-number-preserved : goal.loop-number-preserved
loop-number-preserved g c =
    let at = sym c.in_ok-witness.ensures ∙ ap witness_of c.in-Some.is ∙ ap Some (sym c.deref.ensures.value) in
    let is = vertices-next c.args.search.now.states c.args.first_machine.now c.args.tree (visited_of c.args.search.now).witnesses c.loop-number.number c.deref.result.now at in
    record {
      left = but_then c.loop-number.invariant.left is (rw c.loop-number.invariant.same at c.in_ok-write_vertex.ensures.written);
      same = c.write_vertex.ensures.unchanged ∙ c.loop-number.invariant.same;
    }

pub returns : goal.returns
returns g c =
    let past : length (visited_of c.args.search.now).witnesses ≤ c.loop-number.number = omega (arith, c.requires, c.len-number-end.ensures, c.loop-number-test.false) in
    but_ends (vertices-past c.args.search.now.states c.args.first_machine.now c.args.tree (visited_of c.args.search.now).witnesses c.loop-number.number past) c.loop-number.invariant.left
