use Rattle.std.proofs.Common.{◌≡◌, ◌<◌, ◌≤◌, ℕ, length, slice_get}
use Rattle.pv_procs.specs.Slots.{users_at}
use Rattle.pv_procs.proofs.shared.put_programs.Given as goal

-- the first programs are exchanged
abbrev pub invariant-loop-k : goal.invariant-loop-k
invariant-loop-k l = record {
  put : (j : ℕ) → j < l.k → slice_get l.programs j ≡ slice_get l.fn.prepared j;
  ahead : (j : ℕ) → l.k ≤ j → slice_get l.prepared j ≡ slice_get l.fn.prepared j;
  rest : (j : ℕ) → l.k ≤ j → slice_get l.programs j ≡ slice_get l.fn.programs j;
  long : length l.programs ≡ length l.fn.programs;
  also : length l.prepared ≡ length l.fn.prepared;
}

-- and the next ones have no users
abbrev pub invariant-loop-k-2 : goal.invariant-loop-k-2
invariant-loop-k-2 l = record {
  put : (j : ℕ) → j < l.count → slice_get l.programs j ≡ slice_get l.fn.prepared j;
  none : (j : ℕ) → l.count ≤ j → j < l.k → users_at l.programs j ≡ 0;
  rest : (j : ℕ) → l.k ≤ j → users_at l.programs j ≡ users_at l.fn.programs j;
  long : length l.programs ≡ length l.fn.programs;
}
