use Rattle.std.proofs.Common.{◌≡◌, take}
use Rattle.std.specs.List.{list_all}
use Rattle.pv_state_encoding.specs.Packed.{is_small}
use Rattle.pv_state_encoding.proofs.numbers.are_small.Given as goal

abbrev pub invariant-loop-byte : goal.invariant-loop-byte
invariant-loop-byte l = l.small ≡ list_all is_small (take l.byte-index l.bytes)
