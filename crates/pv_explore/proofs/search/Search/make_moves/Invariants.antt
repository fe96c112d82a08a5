use Rattle.std.proofs.Common.{◌≡◌, Some, drop, slice_get}
use Rattle.pv_streams.proofs.WriterContracts.{WritesBut}
use Rattle.pv_explore.specs.VisitedStates.{HasNumber}
use Rattle.pv_explore.specs.Plan.{visited_after_steps, state_at}
use Rattle.pv_explore.specs.Searches.{visited_of, witness_at}
use Rattle.pv_explore.proofs.SearchSteps.{steps_left}
use Rattle.pv_model.specs.Machine.{program_of}
use Rattle.pv_explore.proofs.search.Search.make_moves.Given as goal

abbrev pub invariant-loop-pid : goal.invariant-loop-pid
invariant-loop-pid g l =
    let witness = witness_at (visited_of l.fn.self) l.number in
    record {
      left : WritesBut g.W.Sink (steps_left g.O.Observer.observe l.limit l.fn.checkpoints witness (drop l.pid-index l.live) (visited_of l.self)) (steps_left g.O.Observer.observe l.limit l.fn.checkpoints witness l.live (visited_of l.fn.self)) l.fn.out l.out;
      visited : visited_after_steps g.O.Observer.observe l.limit program_of l.fn.checkpoints witness (drop l.pid-index l.live) (visited_of l.self) ≡ visited_after_steps g.O.Observer.observe l.limit program_of l.fn.checkpoints witness l.live (visited_of l.fn.self);
      at : slice_get (visited_of l.self).witnesses l.number ≡ Some witness;
      there : HasNumber l.self.states l.number (state_at program_of l.fn.checkpoints witness);
      same : l.checkpoints ≡ l.fn.checkpoints;
    }
