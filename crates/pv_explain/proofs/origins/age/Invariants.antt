use Rattle.std.proofs.Common.{◌≡◌, ◌++◌, map, take, drop}
use Rattle.pv_explain.specs.Keeping.{aged}
use Rattle.pv_explain.proofs.origins.age.Given as goal

-- the origins up to k are marked
abbrev pub invariant-loop-k : goal.invariant-loop-k
invariant-loop-k l = l.origins.items ≡ map aged (take l.k l.initial.origins.items) ++ drop l.k l.initial.origins.items
