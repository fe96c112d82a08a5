use Rattle.std.proofs.Common.{◌≡◌, ◌*◌, length, take, flat_map}
use Rattle.pv_model.specs.Machine.{hex_byte}
use Rattle.pv_trace.proofs.line_buffer.put_hex_part.Given as goal

-- the digits so far
abbrev pub invariant-loop-k : goal.invariant-loop-k
invariant-loop-k l = record {
  front : take (2 * l.k) l.digits ≡ flat_map hex_byte (take l.k l.bytes);
  whole : length l.digits ≡ 128;
}
