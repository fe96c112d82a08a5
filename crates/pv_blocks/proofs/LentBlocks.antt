-- The effects of a write to a block and of lending a block.
use Rattle.std.proofs.Common.{◌≡◌, ℕ, zero, suc, ◌+◌, ◌*◌, ◌-◌, ◌<◌, ◌≤◌, append_assoc, List, [], ◌++◌, map, length, get_or, set, take, drop, Some, refl, sym, ap, ◌∙◌, inl, inr, arith}
use Rattle.std.specs.List.{range_with_len, flat_map, slice_get}
use Rattle.std.proofs.Math.Seq.{take-add}
use Rattle.std.proofs.lemmas.List.{take_all, take_at, take-take, take-append-le, take-append-drop, drop-take, drop-drop, drop-append-le, length-append, length-take, length-drop}
use Rattle.std.proofs.lemmas.Option.{slice_get-get_or}
use Rattle.std.proofs.lemmas.Bool.{cases_eq, eq-eqb, ne_eqb}
use borrow.Rule.Slice.PartMut.{put_mid}
use Rattle.pv_model.specs.Machine.{Bytes, block}
use Rattle.pv_blocks.specs.BlockStore.{BlockStore, blocks_in_bytes}
use Rattle.pv_blocks.specs.Lending.{with_bytes_from, after_loan, overwritten}
use Rattle.pv_blocks.proofs.BlockStores.{length-blocks_in_bytes, get_or-blocks_in_bytes, length-block, length-put_mid, blocks_in_bytes-put_mid}

-- block k of a store in its bytes
module _ (bytes : Bytes) (count k : ℕ) (blocks : List Bytes) (are : blocks_in_bytes count bytes ≡ blocks) (asked : k < length blocks) where
  pub below_count : k < count
  below_count = omega (arith, ap length are, length-blocks_in_bytes count bytes)

  pub block_seen : slice_get blocks k ≡ Some (take (k * 512 + 512 - k * 512) (drop (k * 512) bytes))
  block_seen =
      let size : k * 512 + 512 - k * 512 ≡ 512 = omega arith in
      let place : k * 512 ≡ 512 * k = omega arith in
      rw (size, place) (slice_get-get_or blocks k [] asked ∙ ap Some (ap (λ (bs : List Bytes). get_or bs k []) (sym are) ∙ get_or-blocks_in_bytes count bytes k [] below_count))

-- consecutive blocks are the bytes that they consist of
joined : (bytes : Bytes) (a n : ℕ) → flat_map (λ b. b) (map (block bytes) (range_with_len a n)) ≡ take (512 * n) (drop (512 * a) bytes)
joined bytes a zero = refl
joined bytes a (suc n) =
    let size : 512 * suc n ≡ 512 + 512 * n = omega arith in
    let place : 512 * (a + 1) ≡ 512 * a + 512 = omega arith in
    rw (joined bytes (a + 1) n, size, place) (sym (take-add 512 (512 * n) (drop (512 * a) bytes) ∙ ap (λ rest. block bytes a ++ take (512 * n) rest) (drop-drop 512 (512 * a) bytes)))

module _ (bytes left : Bytes) (count k : ℕ) (whole : length bytes ≡ 512 * count) (within : k < count) where
  all_joined : flat_map (λ b. b) (blocks_in_bytes count bytes) ≡ bytes
  all_joined = joined bytes 0 count ∙ take_all (512 * count) bytes (omega arith)

  block_left : length left ≡ 512 → with_bytes_from bytes (512 * k) left ≡ put_mid (512 * k) 512 bytes left
  block_left long =
      let after : Bytes = take (512 * k) bytes ++ (left ++ drop (length left) (drop (512 * k) bytes)) in
      let same : after ≡ put_mid (512 * k) 512 bytes left = ap (λ n. take (512 * k) bytes ++ (left ++ drop n (drop (512 * k) bytes))) long in
      take_at after (drop (length after) bytes) (length bytes) (ap length same ∙ length-put_mid bytes left k (omega arith) long) ∙ same

  pub blocks_in_bytes-loan : (s : BlockStore) → s.blocks ≡ blocks_in_bytes count bytes → record s { blocks = blocks_in_bytes count (with_bytes_from bytes (512 * k) left) } ≡ after_loan s k left
  blocks_in_bytes-loan s blocks = elim (cases_eq (length left) 512) [
    | inl long ↦ rw (eq-eqb (length left) 512 long) (ap (λ (bs : List Bytes). record s { blocks = bs })
        (ap (blocks_in_bytes count) (block_left long) ∙ blocks_in_bytes-put_mid bytes left k (omega arith) long count within ∙ ap (λ bs. set bs k left) (sym blocks)))
    | inr other ↦
        let counted : length s.blocks ≡ count = ap length blocks ∙ length-blocks_in_bytes count bytes in
        let flat : flat_map (λ b. b) s.blocks ≡ bytes = ap (flat_map (λ b. b)) blocks ∙ all_joined in
        rw (ne_eqb (length left) 512 other, counted, flat) refl
  ]

-- a write to bytes keeps their number
pub length-loan : (bytes left : Bytes) (at : ℕ) → length (with_bytes_from bytes at left) ≡ length bytes
length-loan bytes left at =
    let after : Bytes = take at bytes ++ (left ++ drop (length left) (drop at bytes)) in
    omega (arith, length-take (length bytes) (after ++ drop (length after) bytes), length-append after (drop (length after) bytes), length-drop (length after) bytes)

-- a write to bytes changes no block before it
pub block-loan_before : (bytes left : Bytes) (at j : ℕ) → at ≤ length bytes → 512 * j + 512 ≤ at → block (with_bytes_from bytes at left) j ≡ block bytes j
block-loan_before bytes left at j within before =
    let size : length (take at bytes) ≡ at = omega (arith, length-take at bytes) in
    let rest : Bytes = left ++ drop (length left) (drop at bytes) in
    let after : Bytes = take at bytes ++ rest in
    let front : (ys : Bytes) → take (512 * j + 512) (take (length bytes) (after ++ ys)) ≡ take (512 * j + 512) bytes = λ ys.
    take-take (512 * j + 512) (length bytes) (after ++ ys) (omega arith)
    ∙ ap (take (512 * j + 512)) (append_assoc (take at bytes) rest ys)
    ∙ take-append-le (512 * j + 512) (take at bytes) (rest ++ ys) (omega arith)
    ∙ take-take (512 * j + 512) at bytes before in
    sym (drop-take (512 * j) 512 (with_bytes_from bytes at left))
    ∙ ap (drop (512 * j)) (front (drop (length after) bytes))
    ∙ drop-take (512 * j) 512 bytes

-- a write to the first 512 bytes is one to those alone
overwritten_front : (bytes new : Bytes) (at : ℕ) → at + length new ≤ 512 → 512 ≤ length bytes → take at bytes ++ (new ++ drop (length new) (drop at bytes)) ≡ overwritten (take 512 bytes) at new ++ drop 512 bytes
overwritten_front bytes new at within long =
    let front : Bytes = take 512 bytes in
    let rest : Bytes = drop 512 bytes in
    let size : length front ≡ 512 = omega (arith, length-take 512 bytes) in
    let tail : drop (length new) (drop at bytes) ≡ drop (at + length new) front ++ rest =
    drop-drop (length new) at bytes
    ∙ ap (drop (at + length new)) (sym (take-append-drop 512 bytes))
    ∙ drop-append-le (at + length new) front rest (omega arith) in
    rw (tail, ← take-take at 512 bytes (omega arith)) (sym (
    append_assoc (take at front) (new ++ drop (at + length new) front) rest
    ∙ ap (λ (bs : Bytes). take at front ++ bs) (append_assoc new (drop (at + length new) front) rest)
    ))

module _ (bytes new : Bytes) (k at : ℕ) (place : at + length new ≤ 512) (within : 512 * k + 512 ≤ length bytes) where
  pub length-overwritten : length (overwritten (block bytes k) at new) ≡ 512
  length-overwritten =
      let size = length-block bytes k within in
      simp (length-append, length-take, length-drop) (omega arith)

  pub written_is : with_bytes_from bytes (512 * k + at) new ≡ put_mid (512 * k) 512 bytes (overwritten (block bytes k) at new)
  written_is =
      let from : Bytes = drop (512 * k) bytes in
      let after : Bytes = take (512 * k + at) bytes ++ (new ++ drop (length new) (drop (512 * k + at) bytes)) in
      let long : 512 ≤ length from = omega (arith, length-drop (512 * k) bytes) in
      let same : after ≡ put_mid (512 * k) 512 bytes (overwritten (block bytes k) at new) =
      rw (take-add (512 * k) at bytes, ← drop-drop at (512 * k) bytes, append_assoc) (ap (λ (bs : Bytes). take (512 * k) bytes ++ bs) (overwritten_front from new at place long)) in
      take_at after (drop (length after) bytes) (length bytes) (ap length same ∙ length-put_mid bytes (overwritten (block bytes k) at new) k within length-overwritten) ∙ same
