use Rattle.std.proofs.Common.{◌≡◌, ◌+◌, ◌-◌, ◌*◌, ◌≤◌, ◌++◌, ℕ, replicate, ap, sym, ◌∙◌, arith}
use Rattle.std.specs.List.{range_with_len}
use Rattle.std.proofs.lemmas.List.{append_assoc}
use Rattle.pv_model.specs.Machine.{Bytes, little_endian}
use Rattle.pv_image_write.specs.Encoding.{padded, encoded_numbers}
use Rattle.pv_image_write.proofs.NumberRanges.{length-encoded_row, encoded_numbers-more}
use Rattle.pv_image_write.proofs.filling.put_pointers.Goals as goal

-- one more number
one-more : (old now new : Bytes) (first block : ℕ) → first ≤ block → now ≡ old ++ encoded_numbers (range_with_len first (block - first)) → new ≡ now ++ little_endian 2 block
    → new ≡ old ++ encoded_numbers (range_with_len first (block + 1 - first))
one-more old now new first block from so_far next =
    let n = block - first in
    let further : n + 1 ≡ block + 1 - first = omega arith in
    let here : block ≡ first + n = omega arith in
    next ∙ ap (λ (xs : Bytes). xs ++ little_endian 2 block) so_far ∙ append_assoc old (encoded_numbers (range_with_len first n)) (little_endian 2 block)
    ∙ ap (λ k. old ++ (encoded_numbers (range_with_len first n) ++ little_endian 2 k)) here
    ∙ ap (λ (xs : Bytes). old ++ xs) (sym (encoded_numbers-more first n)) ∙ ap (λ k. old ++ encoded_numbers (range_with_len first k)) further

pub loop-block-preserved : goal.loop-block-preserved
loop-block-preserved c = record {
  numbers = one-more c.args.bytes.now.items c.loop-block.bytes.items c.put_u16.new.bytes.items c.args.first c.loop-block.block (omega arith) c.loop-block.invariant.numbers c.put_u16.ensures.items;
  len = omega (arith, c.put_u16.ensures.len, c.loop-block.invariant.len);
  room = omega (arith, c.put_u16.ensures.capacity, c.loop-block.invariant.room);
}

-- and the zeros after them
with-zeros : (old now new : Bytes) (first count n length : ℕ) → n ≡ count → now ≡ old ++ encoded_numbers (range_with_len first n) → new ≡ now ++ replicate (length - 2 * count) 0
    → new ≡ old ++ padded length (encoded_numbers (range_with_len first count))
unfolding padded
with-zeros old now new first count n size all so_far following =
    let row = encoded_numbers (range_with_len first count) in
    following ∙ ap (λ (xs : Bytes). xs ++ replicate (size - 2 * count) 0) (so_far ∙ ap (λ k. old ++ encoded_numbers (range_with_len first k)) all)
    ∙ append_assoc old row (replicate (size - 2 * count) 0)
    ∙ ap (λ k. old ++ (row ++ replicate (size - k) 0)) (sym (length-encoded_row first count))

pub returns-clause-items : goal.returns-clause-items
returns-clause-items c =
    with-zeros c.args.bytes.now.items c.loop-block.bytes.items c.put_zeros.new.bytes.items c.args.first c.args.count (c.loop-block.block - c.args.first) c.args.length (omega arith)
    c.loop-block.invariant.numbers c.put_zeros.ensures.items
