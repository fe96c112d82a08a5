use Rattle.std.proofs.Common.{◌≡◌, ◌++◌, drop, flat_map}
use Rattle.pv_source.specs.Saying.{said_part}
use Rattle.pv_source.proofs.explaining.saying.say_all.Given as goal

abbrev pub invariant-loop-part : goal.invariant-loop-part
invariant-loop-part l = l.out ++ flat_map said_part (drop l.part-index l.parts) ≡ l.fn.out ++ flat_map said_part l.parts
