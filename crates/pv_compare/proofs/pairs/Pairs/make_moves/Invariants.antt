use Rattle.pv_compare.specs.Pairs.{IsSearchInvariant, pairs_of}
use Rattle.pv_compare.proofs.PairLoops.{LeavesMoves}
use Rattle.pv_compare.proofs.pairs.Pairs.make_moves.Given as goal

abbrev pub invariant-loop-pid : goal.invariant-loop-pid
invariant-loop-pid l = record {
  left : LeavesMoves l.limit (pairs_of l.fn.self) l.witness.items l.live l.pid-index (pairs_of l.self);
  whole : IsSearchInvariant l.self;
}
