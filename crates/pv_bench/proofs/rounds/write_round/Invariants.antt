use Rattle.std.proofs.Common.{◌≡◌, length}
use Rattle.pv_bench.proofs.rounds.write_round.Given as goal

-- the length of the file and that of the buffer do not change
abbrev pub invariant-loop-number : goal.invariant-loop-number
invariant-loop-number l = (l.file.length ≡ l.fn.file.length) × (length l.buffer ≡ length l.fn.buffer)
