use Rattle.std.proofs.Common.{◌≡◌, drop}
use Rattle.pv_streams.proofs.WriterContracts.{WritesBut}
use Rattle.pv_explore.specs.Vertices.{steps_at}
use Rattle.pv_model.specs.Machine.{answer_bytes}
use Rattle.pv_explore.proofs.graph.write_steps.Given as goal

abbrev pub invariant-loop-pid : goal.invariant-loop-pid
invariant-loop-pid g l = record {
  left : WritesBut g.W.Sink (answer_bytes (steps_at l.states l.fn.checkpoints l.witness (drop l.pid-index l.live))) (answer_bytes (steps_at l.states l.fn.checkpoints l.witness l.live)) l.fn.out l.out;
  same : l.checkpoints ≡ l.fn.checkpoints;
}
