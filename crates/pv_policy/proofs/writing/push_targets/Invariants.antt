use Rattle.std.proofs.Common.{◌≡◌, ◌++◌, take}
use Rattle.std.specs.List.{flat_map}
use Rattle.pv_policy.proofs.writing.push_targets.Given as goal

abbrev pub invariant-loop-target : goal.invariant-loop-target
invariant-loop-target l = l.out.bytes.items ≡ l.initial.out.bytes.items ++ flat_map (λ target. target.lines) (take l.target-index l.targets)
