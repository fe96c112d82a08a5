use Rattle.std.proofs.Common.{◌≡◌, take}
use Rattle.pv_procs.proofs.slot.copy_slots.Given as goal

-- the slots so far are copied
abbrev pub invariant-loop-k : goal.invariant-loop-k
invariant-loop-k l = take l.k l.slots ≡ take l.k l.others
