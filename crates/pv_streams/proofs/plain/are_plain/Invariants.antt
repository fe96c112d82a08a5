use Rattle.std.proofs.Common.{◌≡◌, take}
use Rattle.std.specs.List.{list_all}
use Rattle.pv_model.specs.Machine.{is_plain}
use Rattle.pv_streams.proofs.plain.are_plain.Given as goal

-- the result so far is that of the remaining bytes
abbrev pub invariant-loop-byte : goal.invariant-loop-byte
invariant-loop-byte l = l.plain ≡ list_all is_plain (take l.byte-index l.bytes)
