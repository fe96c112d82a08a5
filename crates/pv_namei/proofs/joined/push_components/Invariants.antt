use Rattle.std.proofs.Common.{◌≡◌, ◌+◌, ◌-◌, ◌≤◌, ◌++◌, length}
use Rattle.pv_model.specs.Machine.{components, weight}
use Rattle.pv_namei.specs.Components.{with_slashes}
use Rattle.pv_namei.proofs.joined.push_components.Given as goal

-- the components so far, and those that remain
abbrev pub invariant-loop-component : goal.invariant-loop-component
invariant-loop-component l = record {
  encoded : l.bytes.items ++ with_slashes (components l.left) ≡ l.fn.bytes.items ++ with_slashes (components l.path);
  weighed : length l.bytes.items + weight (components l.left) ≡ length l.fn.bytes.items + weight (components l.path);
  longer : length l.fn.bytes.items ≤ length l.bytes.items;
  within : weight (components l.path) - weight (components l.left) ≤ 1024 - length l.fn.bytes.items;
}

abbrev pub decreases-loop-component : goal.decreases-loop-component
decreases-loop-component l = length l.left
