use Rattle.std.proofs.Common.{◌≡◌, ◌++◌, take}
use Rattle.std.specs.List.{flat_map}
use Rattle.pv_model.specs.Machine.{answer_bytes}
use Rattle.pv_policy.specs.Usage.{idle_promise}
use Rattle.pv_policy.proofs.writing.push_idle_promises.Given as goal

abbrev pub invariant-loop-used : goal.invariant-loop-used
invariant-loop-used l = l.out.bytes.items ≡ l.initial.out.bytes.items ++ answer_bytes (flat_map idle_promise (take l.used-index l.uses))
