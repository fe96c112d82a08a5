use Rattle.std.proofs.Common.{◌≡◌, ◌<◌, ◌-◌, ◌++◌, length, min, take, drop, get_or, ap, sym, subst, refl, arith, ◌∙◌}
use Rattle.pv_blocks.specs.BlockSet.{is_member}
use Rattle.pv_model.specs.Machine.{block_count, used_content, used_index, is_data_block, rounded_up}
use Rattle.pv_image_mount.specs.Rows.{pointed_row, pointer_row}
use Rattle.pv_image_mount.proofs.InodeContents.{is_data-within, none_at}
use Rattle.pv_image_mount.proofs.PointerRows.{length-row, used_rows}
use Rattle.pv_image_mount.proofs.InvalidBlocks.{all_left, free-parts, left_less, left_refused, two_less}
use Rattle.pv_image_mount.proofs.image.Image.claim_used.Goals as goal

pub returns-then-claim_row-clause-refused : goal.returns-then-claim_row-clause-refused
returns-then-claim_row-clause-refused c =
    let v = c.args.self.now.version in
    let bytes = c.args.self.now.bytes.now in
    let n = c.args.n in
    let here = c.inode-inode.result.now in
    let p = c.saturating_sub-pointed.result in
    let pointed : p ≡ block_count v bytes n - 10 = c.saturating_sub-pointed.ensures ∙ ap (λ m. m - 10) c.block_count-count.ensures in
    let indexed : c.div_ceil.result ≡ rounded_up p 256 = omega (arith, c.div_ceil.ensures) in
    let index = pointer_row c.div_ceil.result (take (length here - 28) (drop 28 here)) in
    let others = pointed_row p bytes (pointer_row (rounded_up p 256) (take (length here - 28) (drop 28 here))) in
    let direct = pointer_row (min (block_count v bytes n) 10) (take (length here - 8) (drop 8 here)) in
    let all = used_rows v bytes n c.requires.size here c.inode-inode.ensures.bytes (min (block_count v bytes n) 10) p refl pointed c.div_ceil.result indexed in
    let first = is_member c.args.used.now in
    let blocks = used_index v bytes n ++ used_content v bytes n in
    sym (left_refused (is_data_block v bytes) first blocks first blocks index (direct ++ others) all (all_left (is_data_block v bytes) first blocks)
    (sym c.claim_row.ensures.refused ∙ c.if-claim_row.true))

pub returns-then-claim_row-2-clause-refused : goal.returns-then-claim_row-2-clause-refused
returns-then-claim_row-2-clause-refused c =
    let v = c.args.self.now.version in
    let bytes = c.args.self.now.bytes.now in
    let n = c.args.n in
    let here = c.inode-inode.result.now in
    let p = c.saturating_sub-pointed.result in
    let pointed : p ≡ block_count v bytes n - 10 = c.saturating_sub-pointed.ensures ∙ ap (λ m. m - 10) c.block_count-count.ensures in
    let indexed : c.div_ceil.result ≡ rounded_up p 256 = omega (arith, c.div_ceil.ensures) in
    let index = pointer_row c.div_ceil.result (take (length here - 28) (drop 28 here)) in
    let others = pointed_row p bytes (pointer_row (rounded_up p 256) (take (length here - 28) (drop 28 here))) in
    let few : c.min.result ≡ min (block_count v bytes n) 10 = c.min.ensures ∙ ap (λ m. min m 10) c.block_count-count.ensures in
    let direct = pointer_row c.min.result (take (length here - 8) (drop 8 here)) in
    let all = used_rows v bytes n c.requires.size here c.inode-inode.ensures.bytes c.min.result p few pointed c.div_ceil.result indexed in
    let may = is_data_block v bytes in
    let first = is_member c.args.used.now in
    let blocks = used_index v bytes n ++ used_content v bytes n in
    sym (left_refused may first blocks (is_member c.claim_row.new.used) (direct ++ others) direct others refl
    (left_less may first blocks first (is_member c.claim_row.new.used) blocks index (direct ++ others) all (all_left may first blocks)
    (sym c.claim_row.ensures.refused ∙ c.if-claim_row.false) (c.claim_row.ensures.after c.if-claim_row.false))
    (sym c.claim_row-2.ensures.refused ∙ c.if-claim_row-2.true))

pub claim_pointed-requires-clause-within : goal.claim_pointed-requires-clause-within
claim_pointed-requires-clause-within c = λ i less.
    let v = c.args.self.now.version in
    let bytes = c.args.self.now.bytes.now in
    let here = c.inode-inode.result.now in
    let m = rounded_up c.saturating_sub-pointed.result 256 in
    let indexed : c.div_ceil.result ≡ m = omega (arith, c.div_ceil.ensures) in
    let row = pointer_row m (take (length here - 28) (drop 28 here)) in
    let fine = rw indexed at (sym c.claim_row.ensures.refused ∙ c.if-claim_row.false) in
    let inside : i < length row = subst (λ k. i < k) (sym (length-row m (take (length here - 28) (drop 28 here)))) less in
    is_data-within v bytes (get_or row i 0) (none_at _ row i 0 (free-parts (is_data_block v bytes) (is_member c.args.used.now) row fine).may_be inside)

pub returns : goal.returns
returns c =
    let v = c.args.self.now.version in
    let bytes = c.args.self.now.bytes.now in
    let n = c.args.n in
    let here = c.inode-inode.result.now in
    let p = c.saturating_sub-pointed.result in
    let pointed : p ≡ block_count v bytes n - 10 = c.saturating_sub-pointed.ensures ∙ ap (λ m. m - 10) c.block_count-count.ensures in
    let indexed : c.div_ceil.result ≡ rounded_up p 256 = omega (arith, c.div_ceil.ensures) in
    let index = pointer_row c.div_ceil.result (take (length here - 28) (drop 28 here)) in
    let others = pointed_row p bytes (pointer_row (rounded_up p 256) (take (length here - 28) (drop 28 here))) in
    let few : c.min.result ≡ min (block_count v bytes n) 10 = c.min.ensures ∙ ap (λ m. min m 10) c.block_count-count.ensures in
    let direct = pointer_row c.min.result (take (length here - 8) (drop 8 here)) in
    let all = used_rows v bytes n c.requires.size here c.inode-inode.ensures.bytes c.min.result p few pointed c.div_ceil.result indexed in
    let less = two_less (is_data_block v bytes) (is_member c.args.used.now) (used_index v bytes n ++ used_content v bytes n) (is_member c.claim_row.new.used) (is_member c.claim_row-2.new.used) index direct others all
    (sym c.claim_row.ensures.refused ∙ c.if-claim_row.false) (c.claim_row.ensures.after c.if-claim_row.false)
    (sym c.claim_row-2.ensures.refused ∙ c.if-claim_row-2.false) (c.claim_row-2.ensures.after c.if-claim_row-2.false) in
    record {
      refused = c.claim_pointed.ensures.refused ∙ less.refused;
      after = λ fine k. c.claim_pointed.ensures.after fine k ∙ less.taken k;
    }
