use Rattle.std.proofs.Common.{◌≡◌, take}
use Rattle.pv_policy.specs.Usage.{and_all_granted}
use Rattle.pv_policy.proofs.granted.add_all_granted.Given as goal

abbrev pub invariant-loop-granted : goal.invariant-loop-granted
invariant-loop-granted l = l.rows.items ≡ and_all_granted l.initial.rows.items (take l.granted-index l.more)
