use Rattle.std.proofs.Common.{◌≡◌, ◌≤◌, ◌+◌, ◌*◌, ◌++◌, length, flat_map}
use Rattle.pv_model.specs.Machine.{quote_byte}
use Rattle.pv_streams.proofs.escaped.put_bytes.Given as goal

-- each iteration removes a byte from the rest
abbrev pub decreases-loop-first : goal.decreases-loop-first
decreases-loop-first l = length l.rest

-- the buffer, followed by the escaped rest, is the escaped text
abbrev pub invariant-loop-first : goal.invariant-loop-first
invariant-loop-first l = record {
  text : l.out.items ++ flat_map quote_byte l.rest ≡ l.initial.out.items ++ flat_map quote_byte l.bytes;
  growth : length l.out.items + 4 * length l.rest ≤ length l.initial.out.items + 4 * length l.bytes;
}
