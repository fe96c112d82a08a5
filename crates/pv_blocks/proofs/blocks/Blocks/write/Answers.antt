use Rattle.std.proofs.Common.{◌≡◌, ◌≢◌, ◌+◌, ◌*◌, ◌<◌, ◌≤◌, length, refl, ap, subst, sym, ◌∙◌, arith}
use Rattle.std.specs.Vec.{with_items_from}
use borrow.Rule.Slice.PartMut.{put_mid}
use Rattle.pv_model.specs.Machine.{Bytes, block}
use Rattle.pv_blocks.specs.BlockStore.{BlockStore, IsConsistentStore, block_of, blocks_in_bytes, free_outside, with_block}
use Rattle.pv_blocks.specs.Lending.{overwritten}
use Rattle.pv_blocks.proofs.LentBlocks.{length-overwritten, written_is}
use Rattle.pv_blocks.proofs.BlockStores.{block-put_mid_other, blocks_in_bytes-put_mid, bytes_seen, count_seen, length-put_mid}
use Rattle.pv_blocks.proofs.blocks.Blocks.write.Goals as goal
use Rattle.pv_blocks.proofs.blocks.Blocks.write.Goals.{After-copy_from_slice}

pub slice_mut-requires-clause-in_bounds : goal.slice_mut-requires-clause-in_bounds
slice_mut-requires-clause-in_bounds c =
    let a = c.self.inside in
    let counted = count_seen a.bytes.items a.taken a.first a.count c.args.self.now c.self.view_is in
    omega (arith, c.requires.block, c.requires.place, c.self.invariant.whole, a.bytes.ok.0)

within : (c : After-copy_from_slice) → c.args.k < c.self.inside.count
within c =
    let a = c.self.inside in
    omega (arith, c.requires.block, count_seen a.bytes.items a.taken a.first a.count c.args.self.now c.self.view_is)

-- the bytes after the write
abbrev after : (c : After-copy_from_slice) → Bytes
after c = put_mid (512 * c.args.k) 512 c.self.inside.bytes.items (overwritten (block c.self.inside.bytes.items c.args.k) c.args.at c.args.new.now)

items : (c : After-copy_from_slice) → (with_items_from c.self.inside.bytes (c.args.k * 512 + c.args.at) c.copy_from_slice.new.self).items ≡ after c
items c =
    let a = c.self.inside in
    let place : c.args.k * 512 ≡ 512 * c.args.k = omega arith in
    let below = within c in
    rw (place, a.bytes.ok.0, c.copy_from_slice.ensures.after) (written_is a.bytes.items c.args.new.now c.args.k c.args.at c.requires.place (omega (arith, c.self.invariant.whole)))

pub invariant_of-self : goal.invariant_of-self
invariant_of-self c =
    let step = (goal.at.invariant_of-self c).After-copy_from_slice in
    let a = c.self.inside in
    let k = c.args.k in
    let below = within step in
    let inside : 512 * k + 512 ≤ length a.bytes.items = omega (arith, c.self.invariant.whole) in
    let new : Bytes = overwritten (block a.bytes.items k) c.args.at c.args.new.now in
    let long = length-overwritten a.bytes.items c.args.new.now k c.args.at c.requires.place inside in
    subst (λ (bs : Bytes). IsConsistentStore bs a.taken a.first a.count a.free a.least c.written_after-self-inside.result) (sym (items step)) (record {
      whole = length-put_mid a.bytes.items new k inside long ∙ c.self.invariant.whole;
      first_within = c.self.invariant.first_within;
      reserved = c.self.invariant.reserved;
      counted = c.self.invariant.counted;
      none_below = c.self.invariant.none_below;
      written_within = c.written_after-self-inside.ensures.within;
      unwritten = λ j low high.
          let other : j ≢ k = λ same.
          let reached = c.written_after-self-inside.ensures.reached (omega arith) in
          omega arith in
          block-put_mid_other a.bytes.items new k inside long j other
          ∙ c.self.invariant.unwritten j (omega (arith, c.written_after-self-inside.ensures.grown)) high;
    })

pub returns : goal.returns
returns c =
    let step = (goal.at.returns c).After-copy_from_slice in
    let a = c.self.inside in
    let k = c.args.k in
    let below = within step in
    let inside : 512 * k + 512 ≤ length a.bytes.items = omega (arith, c.self.invariant.whole) in
    let new : Bytes = overwritten (block a.bytes.items k) c.args.at c.args.new.now in
    let long = length-overwritten a.bytes.items c.args.new.now k c.args.at c.requires.place inside in
    let seen : BlockStore = record { blocks = blocks_in_bytes a.count a.bytes.items; free = free_outside a.taken a.count; first = a.first } in
    ap (λ (bs : Bytes). record seen { blocks = blocks_in_bytes a.count bs }) (items step)
    ∙ ap (λ bs. record seen { blocks = bs }) (blocks_in_bytes-put_mid a.bytes.items new k inside long a.count below)
    ∙ ap (λ (bs : Bytes). with_block seen k (overwritten bs c.args.at c.args.new.now)) (sym (bytes_seen a.bytes.items a.taken a.first a.count c.args.self.now c.self.view_is k below))
    ∙ ap (λ (s : BlockStore). with_block s k (overwritten (block_of c.args.self.now k) c.args.at c.args.new.now)) c.self.view_is
