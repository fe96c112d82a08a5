use Rattle.std.proofs.Common.{◌≡◌, vec_len, vec_capacity}
use Rattle.pv_procs.proofs.slot.spare_slots.Given as goal

-- the slots so far, and capacity for all
abbrev pub invariant-loop-slot : goal.invariant-loop-slot
invariant-loop-slot l = record { count : vec_len l.spare ≡ l._slot; room : vec_capacity l.spare ≡ 32 }
