use Rattle.std.proofs.Common.{◌≡◌, length}
use Rattle.pv_model.specs.Machine.{ends_in_dot, components}
use Rattle.pv_namei.proofs.DotComponents.{last_or}
use Rattle.pv_namei.proofs.component.ends_in_dot.Given as goal

abbrev pub invariant-loop-component : goal.invariant-loop-component
invariant-loop-component l = ends_in_dot l.fn.path ≡ last_or l.dots (components l.rest)

abbrev pub decreases-loop-component : goal.decreases-loop-component
decreases-loop-component l = length l.rest
