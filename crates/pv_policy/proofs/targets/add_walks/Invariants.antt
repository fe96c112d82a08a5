use Rattle.std.proofs.Common.{◌≡◌, map, take}
use Rattle.pv_policy.specs.Usage.{and_walks, walked}
use Rattle.pv_policy.proofs.targets.add_walks.Given as goal

abbrev pub invariant-loop-walk : goal.invariant-loop-walk
invariant-loop-walk l = l.targets.items ≡ and_walks l.initial.targets.items (map (walked l.by l.pid) (take l.walk-index l.walks))
