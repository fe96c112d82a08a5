use Rattle.std.proofs.Common.{◌≡◌}
use Rattle.pv_policy.specs.Noting.{noted_in}
use Rattle.pv_policy.specs.Usage.{promise_by}
use Rattle.pv_policy.proofs.MappedFronts.{mapped}
use Rattle.pv_policy.proofs.promises.add_to_each.Given as goal

abbrev pub invariant-loop-k : goal.invariant-loop-k
invariant-loop-k l = l.uses ≡ mapped (promise_by l.needed l.either' (noted_in l.call)) l.k l.initial.uses
