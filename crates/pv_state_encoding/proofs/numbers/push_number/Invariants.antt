use Rattle.std.proofs.Common.{◌≡◌, ◌++◌, ◌*◌, ◌^◌, ◌<◌}
use Rattle.pv_state_encoding.specs.Packed.{packed_in, packed}
use Rattle.pv_state_encoding.proofs.numbers.push_number.Given as goal

abbrev pub invariant-loop-left : goal.invariant-loop-left
invariant-loop-left l = record {
  text : l.key.items ++ packed_in l.left l.rest ≡ l.fn.key.items ++ packed l.fn.number;
  low : l.rest < 2 * 128 ^ l.left;
}

abbrev pub decreases-loop-left : goal.decreases-loop-left
decreases-loop-left l = l.left
