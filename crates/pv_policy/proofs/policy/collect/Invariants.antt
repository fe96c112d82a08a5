use Rattle.std.proofs.Common.{◌≡◌, [], flat_map, take}
use Rattle.pv_policy.specs.Collecting.{calls_of}
use Rattle.pv_policy.specs.Usage.{and_calls}
use Rattle.pv_policy.proofs.policy.collect.Given as goal

abbrev pub invariant-loop-number : goal.invariant-loop-number
invariant-loop-number l = record {
  same : l.visits ≡ l.initial.visits;
  collected : l.programs.items ≡ and_calls [] (flat_map (calls_of l.granted) (take l.number l.initial.visits.found));
}
