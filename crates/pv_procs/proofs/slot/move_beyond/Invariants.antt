use Rattle.std.proofs.Common.{◌≡◌, ◌+◌, ◌≤◌, min, vec_len, vec_capacity}
use Rattle.pv_procs.proofs.slot.move_beyond.Given as goal

-- one slot moves for each number from `count` on
abbrev pub invariant-loop-slot : goal.invariant-loop-slot
invariant-loop-slot l = record {
  left : vec_len l.from + l._slot ≡ vec_len l.initial.from + l.count;
  rest : min (vec_len l.initial.from) l.count ≤ vec_len l.from;
  all : vec_len l.from + vec_len l.to ≡ vec_len l.initial.from + vec_len l.initial.to;
  from_capacity : vec_capacity l.from ≡ vec_capacity l.initial.from;
  to_capacity : vec_capacity l.to ≡ vec_capacity l.initial.to;
}
