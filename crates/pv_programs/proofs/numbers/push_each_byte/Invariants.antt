use Rattle.std.proofs.Common.{take}
use Rattle.pv_programs.specs.Appending.{AppendsNumbers}
use Rattle.pv_programs.proofs.numbers.push_each_byte.Given as goal

abbrev pub invariant-loop-byte : goal.invariant-loop-byte
invariant-loop-byte l = AppendsNumbers (take l.byte-index l.bytes) l.fn.out.items l.out.items
