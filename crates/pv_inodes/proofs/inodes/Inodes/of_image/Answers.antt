use Rattle.std.proofs.Common.{◌≡◌, suc, ◌+◌, ◌/◌, ◌<◌, List, ap, sym, ◌∙◌, vec_len, arith}
use Rattle.pv_blocks.specs.BlockStore.{free_from}
use Rattle.pv_model.specs.Machine.{Bytes}
use Rattle.pv_inodes.specs.Layout.{owned_count}
use Rattle.pv_inodes.specs.Sound.{first_data}
use Rattle.pv_inodes.proofs.GreatestUsedInode.{kinds-none_used}
use Rattle.pv_inodes.proofs.InodeCreation.{home_within}
use Rattle.pv_inodes.proofs.InodeLayouts.{first_data-is}
use Rattle.pv_inodes.proofs.MountedStore.{over_none, home_over, size_over, most_over, index_over, free_over, over_more, over_next, sound_over, files_of-over}
use Rattle.pv_inodes.proofs.inodes.Inodes.of_image.Goals as goal
use Rattle.pv_inodes.proofs.inodes.Inodes.of_image.Goals.{In-loop-i}

-- at first, none of the blocks is in use
pub loop-slot-init : goal.loop-slot-init
loop-slot-init c =
    let first : c.div_ceil.result + 1 ≡ first_data c.args.version c.args.inodes = omega (arith, rw c.layout.ensures.inode_length at c.div_ceil.ensures, first_data-is c.args.version c.args.inodes) in
    over_none _ c.args.bytes.items (vec_len c.args.bytes / 512) _ _ c.new.result (omega (arith, c.requires.whole)) c.requires.inodes (omega (arith, c.requires.some_blocks, first_data-is c.args.version c.args.inodes))
    c.of_bytes-blocks.ensures.blocks (c.of_bytes-blocks.ensures.first ∙ first)
    (c.of_bytes-blocks.ensures.free ∙ ap (λ n. free_from n c.new.result (vec_len c.args.bytes / 512)) first) c.new.ensures.empty

pub owned_count-i-end-requires-clause-block : goal.owned_count-i-end-requires-clause-block
owned_count-i-end-requires-clause-block c = home_over _ _ _ _ _ _ _ c.loop-slot.invariant c.loop-slot-test.true

pub owned_count-i-end-requires-clause-allowed : goal.owned_count-i-end-requires-clause-allowed
owned_count-i-end-requires-clause-allowed c = size_over _ _ _ _ _ _ _ c.loop-slot.invariant c.loop-slot-test.true

pub owned_by-block-requires-clause-block : goal.owned_by-block-requires-clause-block
owned_by-block-requires-clause-block c = home_over _ _ _ _ _ _ _ c.loop-i.invariant c.loop-slot-test.true

-- the next block of the sequence is one that the inode owns
more : (c : In-loop-i) → c.loop-i.i < c.owned_count-i-end.result → c.loop-i.i < owned_count c.args.version c.loop-i.blocks.blocks c.loop-slot.slot
more c less =
    let same = ap (λ (bs : List Bytes). owned_count c.args.version bs c.loop-slot.slot) (c.loop-slot.invariant.blocks ∙ sym c.loop-i.invariant.blocks) in
    omega (arith, c.owned_count-i-end.ensures, same, less)

pub owned_by-block-requires-clause-owned : goal.owned_by-block-requires-clause-owned
owned_by-block-requires-clause-owned c =
    most_over _ _ _ _ _ _ _ c.loop-i.invariant c.loop-slot-test.true (more (goal.at.owned_by-block-requires-clause-owned c).In-loop-i c.loop-i-test.true)

pub owned_by-block-requires-clause-index : goal.owned_by-block-requires-clause-index
owned_by-block-requires-clause-index c =
    index_over _ _ _ _ _ _ _ c.loop-i.invariant c.loop-slot-test.true (more (goal.at.owned_by-block-requires-clause-index c).In-loop-i c.loop-i-test.true)

pub reserve-requires : goal.reserve-requires
reserve-requires c =
    free_over _ _ _ _ _ _ _ c.loop-i.invariant c.loop-slot-test.true (more (goal.at.reserve-requires c).In-loop-i c.loop-i-test.true) _ c.owned_by-block.ensures

pub loop-i-preserved : goal.loop-i-preserved
loop-i-preserved c =
    over_more _ _ _ _ _ _ _ c.loop-i.invariant c.loop-slot-test.true (more (goal.at.loop-i-preserved c).In-loop-i c.loop-i-test.true) _ _ c.owned_by-block.ensures c.reserve.ensures

pub loop-slot-preserved : goal.loop-slot-preserved
loop-slot-preserved c =
    let same = ap (λ (bs : List Bytes). owned_count c.args.version bs c.loop-slot.slot) (c.loop-slot.invariant.blocks ∙ sym c.loop-i.invariant.blocks) in
    let next : c.loop-slot.slot + 1 ≡ suc c.loop-slot.slot = omega arith in
    rw next (over_next _ _ _ _ _ _ _ c.loop-i.invariant c.loop-slot-test.true (omega (arith, c.owned_count-i-end.ensures, same, c.loop-i-test.false)))

pub end_of_used-most-requires : goal.end_of_used-most-requires
end_of_used-most-requires c = λ s below.
    let at_end : c.loop-slot.slot ≡ c.args.inodes = omega arith in
    home_within c.args.version _ _ _ (sound_over _ _ _ _ _ (rw at_end at c.loop-slot.invariant)) below

pub invariant_of-result : goal.invariant_of-result
invariant_of-result c =
    let at_end : c.loop-slot.slot ≡ c.args.inodes = omega arith in (
      sound_over _ _ _ _ _ (rw at_end at c.loop-slot.invariant),
      λ s below. absurd (omega (arith, below)),
      kinds-none_used c.args.version _ c.args.inodes _ c.end_of_used-most.ensures,
    )

pub returns : goal.returns
returns c = let at_end : c.loop-slot.slot ≡ c.args.inodes = omega arith in files_of-over _ _ _ _ _ (rw at_end at c.loop-slot.invariant)
