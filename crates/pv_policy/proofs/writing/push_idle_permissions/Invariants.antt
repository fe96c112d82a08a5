use Rattle.std.proofs.Common.{◌≡◌, ◌++◌, take}
use Rattle.std.specs.List.{flat_map}
use Rattle.pv_model.specs.Machine.{answer_bytes}
use Rattle.pv_policy.specs.Usage.{idle_granted}
use Rattle.pv_policy.proofs.writing.push_idle_permissions.Given as goal

abbrev pub invariant-loop-row : goal.invariant-loop-row
invariant-loop-row l = l.out.bytes.items ≡ l.initial.out.bytes.items ++ answer_bytes (flat_map (idle_granted l.used) (take l.row-index l.granted))
