use Rattle.std.proofs.Common.{◌≡◌, ◌∷◌, [], ◌++◌, drop}
use Rattle.std.specs.Prelude.{flat_map}
use Rattle.pv_model.specs.Machine.{quote_byte}
use Rattle.pv_source.proofs.located.push_quoted.Given as goal

abbrev pub invariant-loop-byte : goal.invariant-loop-byte
invariant-loop-byte l = l.out.items ++ flat_map quote_byte (drop l.byte-index l.text) ≡ (l.fn.out.items ++ 34 ∷ []) ++ flat_map quote_byte l.text
