use Rattle.std.proofs.Common.{◌≡◌, ◌++◌, ℕ, map}
use Rattle.std.specs.Global.{Vec}
use Rattle.pv_state_encoding.specs.Groups.{parts_of}
use Rattle.pv_reduced.proofs.parts.push_parts.Given as goal

abbrev pub invariant-loop-part : goal.invariant-loop-part
invariant-loop-part l = parts_of l.parts ≡ parts_of l.fn.parts ++ map (λ (p : Vec ℕ). p.items) l.yielded
