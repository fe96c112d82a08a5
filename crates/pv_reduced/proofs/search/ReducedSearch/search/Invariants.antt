use Rattle.std.proofs.Common.{◌≡◌}
use Rattle.pv_streams.proofs.WriterContracts.{WritesBut}
use Rattle.pv_reduced.specs.Searches.{HaveWitnesses, reduced_visited_of}
use Rattle.pv_reduced.proofs.ReducedSearchSteps.{visited_left, reported_left}
use Rattle.pv_reduced.proofs.search.ReducedSearch.search.Given as goal

abbrev pub invariant-loop-number : goal.invariant-loop-number
invariant-loop-number g l = record {
  left : WritesBut g.W.Sink (reported_left g.O.Observer.observe l.limit l.first_machine l.number (reduced_visited_of l.self)) (reported_left g.O.Observer.observe l.limit l.first_machine 0 (reduced_visited_of l.fn.self)) l.fn.out l.out;
  visited : visited_left g.O.Observer.observe l.limit l.first_machine l.number (reduced_visited_of l.self) ≡ visited_left g.O.Observer.observe l.limit l.first_machine 0 (reduced_visited_of l.fn.self);
  at : HaveWitnesses (reduced_visited_of l.self);
  same : l.checkpoints ≡ l.first_machine;
}
