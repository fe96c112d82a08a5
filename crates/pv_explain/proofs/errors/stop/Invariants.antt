use Rattle.std.proofs.Common.{◌≡◌, ◌-◌, length}
use Rattle.pv_explain.specs.Errors.{first_stop}
use Rattle.pv_explain.proofs.errors.stop.Given as goal

-- the first stop is not among the bytes so far
abbrev pub invariant-loop-k : goal.invariant-loop-k
invariant-loop-k l = first_stop l.tree.tree l.start l.follow l.path (length l.path - l.k) l.k ≡ first_stop l.tree.tree l.start l.follow l.path (length l.path) 0
