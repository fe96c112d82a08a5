use Rattle.std.proofs.Common.{◌≡◌, ◌+◌, ◌-◌, ◌/◌, ◌%◌, ◌<◌, [], length, take, drop, min, ap, sym, ◌∙◌, arith}
use Rattle.std.proofs.lemmas.List.{length-drop, take_min}
use Rattle.std.proofs.lemmas.Option.{get_or_from_slice_get}
use Rattle.pv_model.specs.Machine.{Bytes}
use Rattle.pv_inodes.specs.Files.{inode_bytes_at}
use Rattle.pv_inodes.specs.Layout.{block_at, owned_count, position_of_block}
use Rattle.pv_inodes.proofs.UsedInodes.{InUse, in_use, place_in_use}
use Rattle.pv_inodes.proofs.InodeLayouts.{greatest_length-most}
use Rattle.pv_inodes.proofs.ReadResults.{part_read}
use Rattle.pv_inodes.proofs.inodes.Inodes.lend.Goals as goal
use Rattle.pv_inodes.proofs.inodes.Inodes.lend.Goals.{After-self}

known : (c : After-self) → InUse c.self.inside.version c.self.inside.blocks c.self.inside.inodes c.args.self.now c.args.inode c.slot-slot.result
known c = in_use c.self.inside.version _ _ _ _ _ c.self.invariant.0 c.self.view_is c.requires.used c.slot-slot.ensures

pub size_of-requires : goal.size_of-requires
size_of-requires c = (known (goal.at.size_of-requires c).After-self).home_within

pub overflow_sub-left : goal.overflow_sub-left
overflow_sub-left c = let k = known (goal.at.overflow_sub-left c).After-self in omega (arith, c.requires.within, c.size_of.ensures, k.size)

pub overflow_cast-at : goal.overflow_cast-at
overflow_cast-at c = let k = known (goal.at.overflow_cast-at c).After-self in omega (arith, c.requires.within, k.allowed, k.size, greatest_length-most c.self.inside.version)

-- the block is one that the inode owns
in_range : (c : After-self) → position_of_block (c.args.at / 512) < owned_count c.self.inside.version c.self.inside.blocks.blocks c.slot-slot.result
in_range c = place_in_use c.self.inside.version _ _ _ _ _ (known c) c.args.at c.requires.within

pub content_block-block-requires-clause-block : goal.content_block-block-requires-clause-block
content_block-block-requires-clause-block c = (known (goal.at.content_block-block-requires-clause-block c).After-self).home_within

pub content_block-block-requires-clause-owned : goal.content_block-block-requires-clause-owned
content_block-block-requires-clause-owned c =
    let before = (goal.at.content_block-block-requires-clause-owned c).After-self in
    omega (arith, in_range before, (known before).few)

pub content_block-block-requires-clause-index : goal.content_block-block-requires-clause-index
content_block-block-requires-clause-index c following =
    let before = (goal.at.content_block-block-requires-clause-index c).After-self in
    (known before).index_within (position_of_block (c.args.at / 512)) (in_range before)

pub lend-requires : goal.lend-requires
lend-requires c =
    let before = (goal.at.lend-requires c).After-self in
    rw c.content_block-block.ensures ((known before).owned_within (position_of_block (c.args.at / 512)) (in_range before))

pub returns : goal.returns
returns c =
    let k = known (goal.at.returns c).After-self in
    let bytes = inode_bytes_at c.args.self.now c.args.inode in
    let left : c.size_of.result - c.args.at ≡ length (drop c.args.at bytes) = omega (arith, c.size_of.ensures, k.size, length-drop c.args.at bytes) in
    let count : c.min-count.result ≡ min (512 - c.args.at % 512) (length (drop c.args.at bytes)) = c.min-count.ensures ∙ ap (min (512 - c.args.at % 512)) left in
    let span : c.args.at % 512 + c.min-count.result - c.args.at % 512 ≡ c.min-count.result = omega arith in
    let block : c.lend.result.now ≡ block_at c.self.inside.blocks.blocks c.content_block-block.result = sym (get_or_from_slice_get c.self.inside.blocks.blocks c.content_block-block.result c.lend.result.now [] c.lend.ensures.bytes) in
    ap (λ n. take n (drop (c.args.at % 512) c.lend.result.now)) span
    ∙ ap (λ (xs : Bytes). take c.min-count.result (drop (c.args.at % 512) xs)) block
    ∙ part_read c.self.inside.version _ _ _ _ c.slot-slot.result c.content_block-block.result c.args.at c.min-count.result c.self.invariant.0 k c.content_block-block.ensures
    (omega (arith, count, length-drop c.args.at bytes, c.requires.within)) (omega (arith, count)) (omega (arith, count, length-drop c.args.at bytes))
    ∙ ap (λ n. take n (drop c.args.at bytes)) count
    ∙ take_min (512 - c.args.at % 512) (drop c.args.at bytes)
