use Rattle.std.proofs.Common.{◌≡◌, ◌++◌, ◌+◌, filter, take, drop, vec_len, vec_capacity}
use Rattle.pv_procs.specs.Slots.{is_claimed}
use Rattle.pv_procs.proofs.ending.spare_unclaimed.Given as goal

-- the slots from k on were processed
abbrev pub invariant-loop-k : goal.invariant-loop-k
invariant-loop-k l = record {
  slots : l.slots.items ≡ take l.k l.initial.slots.items ++ filter is_claimed (drop l.k l.initial.slots.items);
  all : vec_len l.slots + vec_len l.spare ≡ vec_len l.initial.slots + vec_len l.initial.spare;
  room : vec_capacity l.slots ≡ vec_capacity l.initial.slots;
  spare_room : vec_capacity l.spare ≡ vec_capacity l.initial.spare;
}
