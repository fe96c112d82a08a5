use Rattle.std.proofs.Common.{◌≡◌, ◌++◌, map, take, drop}
use Rattle.pv_procs.specs.Slots.{adopted}
use Rattle.pv_procs.proofs.ending.adopt_orphans.Given as goal

-- the slots so far
abbrev pub invariant-loop-k : goal.invariant-loop-k
invariant-loop-k l = l.slots ≡ map (adopted l.old l.new) (take l.k l.initial.slots) ++ drop l.k l.initial.slots
