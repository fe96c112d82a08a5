use Rattle.std.proofs.Common.{◌≡◌, Some, drop, slice_get}
use Rattle.std.specs.Prelude.{IfSome}
use Rattle.pv_streams.proofs.WriterContracts.{WritesBut}
use Rattle.pv_reduced.specs.Plan.{reduced_visited_after_steps}
use Rattle.pv_reduced.specs.Searches.{reduced_visited_of, reduced_witness_at}
use Rattle.pv_reduced.proofs.ReducedSearchSteps.{steps_left}
use Rattle.pv_explore.specs.Plan.{state_at}
use Rattle.pv_model.specs.Machine.{program_of, State}
use Rattle.pv_reduced.proofs.search.ReducedSearch.make_moves.Given as goal

abbrev pub invariant-loop-pid : goal.invariant-loop-pid
invariant-loop-pid g l =
    let witness = reduced_witness_at (reduced_visited_of l.fn.self) l.number in
    record {
      left : WritesBut g.W.Sink (steps_left g.O.Observer.observe l.limit l.fn.checkpoints witness (drop l.pid-index l.moving) (reduced_visited_of l.self)) (steps_left g.O.Observer.observe l.limit l.fn.checkpoints witness l.moving (reduced_visited_of l.fn.self)) l.fn.out l.out;
      visited : reduced_visited_after_steps g.O.Observer.observe l.limit program_of l.fn.checkpoints witness (drop l.pid-index l.moving) (reduced_visited_of l.self) ≡ reduced_visited_after_steps g.O.Observer.observe l.limit program_of l.fn.checkpoints witness l.moving (reduced_visited_of l.fn.self);
      at : slice_get (reduced_visited_of l.self).witnesses l.number ≡ Some witness;
      same : l.checkpoints ≡ l.fn.checkpoints;
      machine : IfSome l.machine (λ (m : State). m ≡ state_at program_of l.fn.checkpoints witness);
    }
