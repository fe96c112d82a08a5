use Rattle.std.proofs.Common.{◌≡◌, ◌++◌, flat_map, take}
use Rattle.pv_model.specs.Machine.{counted_from}
use Rattle.pv_policy.specs.Usage.{usage_bytes}
use Rattle.pv_policy.proofs.writing.push_programs.Given as goal

abbrev pub invariant-loop-k : goal.invariant-loop-k
invariant-loop-k l = l.out.bytes.items ≡ l.initial.out.bytes.items ++ flat_map (usage_bytes l.tree.tree l.complete) (counted_from 1 (take l.k l.programs))
