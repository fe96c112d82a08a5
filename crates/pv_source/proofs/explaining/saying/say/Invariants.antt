use Rattle.std.proofs.Common.{◌≡◌, ◌++◌, drop}
use Rattle.pv_source.specs.Saying.{printable_text}
use Rattle.pv_source.proofs.explaining.saying.say.Given as goal

abbrev pub invariant-loop-byte : goal.invariant-loop-byte
invariant-loop-byte l = l.out ++ printable_text (drop l.byte-index l.bytes) ≡ l.fn.out ++ printable_text l.bytes
