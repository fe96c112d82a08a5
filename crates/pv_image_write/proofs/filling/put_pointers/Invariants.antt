use Rattle.std.proofs.Common.{◌≡◌, ◌≤◌, ◌+◌, ◌-◌, ◌*◌, ◌++◌, vec_capacity, vec_len}
use Rattle.std.specs.List.{range_with_len}
use Rattle.pv_image_write.specs.Encoding.{encoded_numbers}
use Rattle.pv_image_write.proofs.filling.put_pointers.Given as goal

abbrev pub invariant-loop-block : goal.invariant-loop-block
invariant-loop-block l = record {
  numbers : l.bytes.items ≡ l.fn.bytes.items ++ encoded_numbers (range_with_len l.first (l.block - l.first));
  len : vec_len l.bytes ≡ vec_len l.fn.bytes + 2 * (l.block - l.first);
  room : vec_capacity l.fn.bytes ≤ vec_capacity l.bytes;
}
