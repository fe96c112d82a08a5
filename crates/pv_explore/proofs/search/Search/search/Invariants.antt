use Rattle.std.proofs.Common.{◌≡◌}
use Rattle.pv_streams.proofs.WriterContracts.{WritesBut}
use Rattle.pv_explore.specs.Searches.{AreAt, visited_of}
use Rattle.pv_explore.proofs.SearchSteps.{visited_left, reported_left}
use Rattle.pv_explore.proofs.search.Search.search.Given as goal

abbrev pub invariant-loop-number : goal.invariant-loop-number
invariant-loop-number g l = record {
  left : WritesBut g.W.Sink (reported_left g.O.Observer.observe l.limit l.first_machine l.number (visited_of l.self)) (reported_left g.O.Observer.observe l.limit l.first_machine 0 (visited_of l.fn.self)) l.fn.out l.out;
  visited : visited_left g.O.Observer.observe l.limit l.first_machine l.number (visited_of l.self) ≡ visited_left g.O.Observer.observe l.limit l.first_machine 0 (visited_of l.fn.self);
  at : AreAt l.first_machine (visited_of l.self);
  same : l.checkpoints ≡ l.first_machine;
}
