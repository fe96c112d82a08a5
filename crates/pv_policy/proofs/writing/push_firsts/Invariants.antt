use Rattle.std.proofs.Common.{◌≡◌, ◌++◌, take}
use Rattle.std.specs.List.{flat_map}
use Rattle.pv_policy.specs.Usage.{promise_bytes}
use Rattle.pv_policy.proofs.writing.push_firsts.Given as goal

abbrev pub invariant-loop-used : goal.invariant-loop-used
invariant-loop-used l = l.out.bytes.items ≡ l.initial.out.bytes.items ++ flat_map promise_bytes (take l.used-index l.uses)
