use Rattle.std.proofs.Common.{take}
use Rattle.pv_state_encoding.specs.Packed.{IsAdded}
use Rattle.pv_state_encoding.proofs.numbers.push_each_item.Given as goal

abbrev pub invariant-loop-byte : goal.invariant-loop-byte
invariant-loop-byte l = IsAdded (take l.byte-index l.bytes) l.fn.key.items l.key.items
