use Rattle.std.proofs.Common.{◌≡◌, ◌≤◌, ◌+◌, ◌*◌, ◌++◌, length, flat_map}
use Rattle.pv_model.specs.Machine.{hex_byte}
use Rattle.pv_trace.proofs.line_buffer.put_hex.Given as goal

-- each iteration removes bytes from those that remain
abbrev pub decreases-loop-left : goal.decreases-loop-left
decreases-loop-left l = length l.left

abbrev pub invariant-loop-left : goal.invariant-loop-left
invariant-loop-left l = record {
  text : l.out.items ++ flat_map hex_byte l.left ≡ l.initial.out.items ++ flat_map hex_byte l.bytes;
  growth : length l.out.items + 2 * length l.left ≤ length l.initial.out.items + 2 * length l.bytes;
}
