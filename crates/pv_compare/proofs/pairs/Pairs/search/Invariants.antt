use Rattle.std.proofs.Common.{◌≡◌}
use Rattle.pv_compare.specs.Pairs.{IsSearchInvariant, found_in, pairs_of}
use Rattle.pv_compare.specs.Plan.{compared_pairs}
use Rattle.pv_compare.proofs.PairSteps.{compared_left}
use Rattle.pv_model.specs.Machine.{program_of}
use Rattle.pv_compare.proofs.pairs.Pairs.search.Given as goal

abbrev pub invariant-loop-number : goal.invariant-loop-number
invariant-loop-number g l = record {
  left : compared_pairs program_of l.limit l.limit 0 (found_in (pairs_of l.fn.self)) l.fn.self.complete ≡ compared_left l.limit l.number (found_in (pairs_of l.self)) l.self.complete;
  whole : IsSearchInvariant l.self;
}
