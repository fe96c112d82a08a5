use Rattle.std.proofs.Common.{◌/◌, ◌<◌, arith}
use Rattle.pv_model.specs.Machine.{overwrite}
use Rattle.pv_inodes.specs.Files.{inode_bytes_at}
use Rattle.pv_inodes.specs.Layout.{owned_count, position_of_block}
use Rattle.pv_inodes.proofs.UsedInodes.{InUse, in_use, place_in_use}
use Rattle.pv_inodes.proofs.InodeLayouts.{greatest_length-most}
use Rattle.pv_inodes.proofs.GreatestUsedInode.{none_used-files_with_bytes}
use Rattle.pv_inodes.proofs.LeastFreeInode.{all_used-files_with_bytes}
use Rattle.pv_inodes.proofs.MethodResults.{Leaves, leaves_written}
use Rattle.pv_inodes.proofs.inodes.Inodes.write_part.Goals as goal
use Rattle.pv_inodes.proofs.inodes.Inodes.write_part.Goals.{After-slot-slot, After-put}

known : (c : After-slot-slot) → InUse c.self.inside.version c.self.inside.blocks c.self.inside.inodes c.args.self.now c.args.inode c.slot-slot.result
known c = in_use c.self.inside.version _ _ _ _ _ c.self.invariant.0 c.self.view_is c.requires.used c.slot-slot.ensures

pub overflow_cast-at : goal.overflow_cast-at
overflow_cast-at c = let k = known (goal.at.overflow_cast-at c).After-slot-slot in omega (arith, c.requires.some, c.requires.within, k.allowed, k.size, greatest_length-most c.self.inside.version)

-- the block is one that the inode owns
in_range : (c : After-slot-slot) → position_of_block (c.args.at / 512) < owned_count c.self.inside.version c.self.inside.blocks.blocks c.slot-slot.result
in_range c = place_in_use c.self.inside.version _ _ _ _ _ (known c) c.args.at (omega (arith, c.requires.some, c.requires.within))

pub content_block-block-requires-clause-block : goal.content_block-block-requires-clause-block
content_block-block-requires-clause-block c = (known (goal.at.content_block-block-requires-clause-block c).After-slot-slot).home_within

pub content_block-block-requires-clause-owned : goal.content_block-block-requires-clause-owned
content_block-block-requires-clause-owned c =
    let before = (goal.at.content_block-block-requires-clause-owned c).After-slot-slot in
    omega (arith, in_range before, (known before).few)

pub content_block-block-requires-clause-index : goal.content_block-block-requires-clause-index
content_block-block-requires-clause-index c following =
    let before = (goal.at.content_block-block-requires-clause-index c).After-slot-slot in
    (known before).index_within (position_of_block (c.args.at / 512)) (in_range before)

pub put-requires-clause-block : goal.put-requires-clause-block
put-requires-clause-block c =
    let k = known (goal.at.put-requires-clause-block c).After-slot-slot in
    rw c.content_block-block.ensures (k.owned_within (position_of_block (c.args.at / 512)) (in_range (goal.at.put-requires-clause-block c).After-slot-slot))

left : (c : After-put) → Leaves c.self.inside.version c.put.new.blocks c.self.inside.inodes c.args.self.now c.args.inode (overwrite (inode_bytes_at c.args.self.now c.args.inode) c.args.at c.args.part.now)
left c =
    let k = known (goal.at.After-put c).After-slot-slot in
    leaves_written c.self.inside.version _ _ _ _ _ c.slot-slot.result c.content_block-block.result _ _ c.self.invariant.0 k
    c.content_block-block.ensures
    c.requires.some c.requires.block c.requires.within c.put.ensures

pub invariant_of-self : goal.invariant_of-self
invariant_of-self c = ((left c).sound, all_used-files_with_bytes _ _ _ _ _ _ c.self.invariant.1 c.self.view_is (left c).files, none_used-files_with_bytes _ _ _ _ _ _ c.self.invariant.2 c.self.view_is (left c).files)

pub returns : goal.returns
returns c = (left c).files
