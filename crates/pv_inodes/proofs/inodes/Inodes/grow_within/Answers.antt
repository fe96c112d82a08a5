use Rattle.std.proofs.Common.{◌≡◌, ◌/◌, ◌<◌, length, refl, ap, ◌∙◌, arith}
use Rattle.pv_model.specs.Machine.{resize}
use Rattle.pv_blocks.specs.BlockStore.{BlockStore}
use Rattle.pv_inodes.specs.Files.{inode_bytes_at}
use Rattle.pv_inodes.specs.Layout.{size_at, owned_at, owned_count, position_of_block}
use Rattle.pv_inodes.proofs.UsedInodes.{InUse, in_use, end_in_use}
use Rattle.pv_inodes.proofs.InodeLayouts.{greatest_length-most}
use Rattle.pv_inodes.proofs.GreatestUsedInode.{none_used-files_with_bytes}
use Rattle.pv_inodes.proofs.LeastFreeInode.{all_used-files_with_bytes}
use Rattle.pv_inodes.proofs.MethodResults.{Leaves, leaves_within}
use Rattle.pv_inodes.proofs.BlockNumbers.{length-splice}
use Rattle.pv_inodes.proofs.inodes.Inodes.grow_within.Goals as goal
use Rattle.pv_inodes.proofs.inodes.Inodes.grow_within.Goals.{After-slot-slot, After-size_of-old, After-set_size}

known : (c : After-slot-slot) → InUse c.self.inside.version c.self.inside.blocks c.self.inside.inodes c.args.self.now c.args.inode c.slot-slot.result
known c = in_use c.self.inside.version _ _ _ _ _ c.self.invariant.0 c.self.view_is c.requires.used c.slot-slot.ensures

pub size_of-old-requires : goal.size_of-old-requires
size_of-old-requires c = (known (goal.at.size_of-old-requires c).After-slot-slot).home_within

pub overflow_cast-old : goal.overflow_cast-old
overflow_cast-old c = let k = known (goal.at.overflow_cast-old c).After-slot-slot in omega (arith, k.allowed, c.size_of-old.ensures, greatest_length-most c.self.inside.version)

pub content_block-last-requires-clause-block : goal.content_block-last-requires-clause-block
content_block-last-requires-clause-block c = (known (goal.at.content_block-last-requires-clause-block c).After-slot-slot).home_within

-- the block in which the contents end is one that the inode owns
place_is : (c : After-size_of-old) → position_of_block (c.size_of-old.result / 512) ≡ position_of_block (size_at c.self.inside.version c.self.inside.blocks.blocks c.slot-slot.result / 512)
place_is c = ap (λ n. position_of_block (n / 512)) c.size_of-old.ensures

in_range : (c : After-size_of-old) → position_of_block (c.size_of-old.result / 512) < owned_count c.self.inside.version c.self.inside.blocks.blocks c.slot-slot.result
in_range c =
    let k = known (goal.at.After-size_of-old c).After-slot-slot in
    rw (place_is c) (end_in_use c.self.inside.version _ _ _ _ _ k (rw k.size c.requires.partly))

pub content_block-last-requires-clause-owned : goal.content_block-last-requires-clause-owned
content_block-last-requires-clause-owned c =
    let k = known (goal.at.content_block-last-requires-clause-owned c).After-slot-slot in
    omega (arith, in_range (goal.at.content_block-last-requires-clause-owned c).After-size_of-old, k.few)

pub content_block-last-requires-clause-index : goal.content_block-last-requires-clause-index
content_block-last-requires-clause-index c following =
    let k = known (goal.at.content_block-last-requires-clause-index c).After-slot-slot in
    k.index_within (position_of_block (c.size_of-old.result / 512)) (in_range (goal.at.content_block-last-requires-clause-index c).After-size_of-old)

pub overflow_sub-size : goal.overflow_sub-size
overflow_sub-size c = let k = known (goal.at.overflow_sub-size c).After-slot-slot in omega (arith, c.requires.longer, c.size_of-old.ensures)

pub put_zeros-requires-clause-block : goal.put_zeros-requires-clause-block
put_zeros-requires-clause-block c =
    let k = known (goal.at.put_zeros-requires-clause-block c).After-slot-slot in
    rw c.content_block-last.ensures (k.owned_within (position_of_block (c.size_of-old.result / 512)) (in_range (goal.at.put_zeros-requires-clause-block c).After-size_of-old))

pub put_zeros-requires-clause-place : goal.put_zeros-requires-clause-place
put_zeros-requires-clause-place c = let k = known (goal.at.put_zeros-requires-clause-place c).After-slot-slot in omega (arith, c.requires.longer, c.requires.within, c.size_of-old.ensures)

pub set_size-requires : goal.set_size-requires
set_size-requires c =
    let k = known (goal.at.set_size-requires c).After-slot-slot in
    let long = ap (λ (b : BlockStore). length b.blocks) c.put_zeros.ensures ∙ length-splice c.self.inside.blocks.blocks c.content_block-last.result _ _ in
    rw long k.home_within

left : (c : After-set_size) → Leaves c.self.inside.version c.set_size.new.blocks c.self.inside.inodes c.args.self.now c.args.inode (resize (inode_bytes_at c.args.self.now c.args.inode) c.args.size)
left c =
    let k = known (goal.at.After-set_size c).After-slot-slot in
    let place = place_is (goal.at.After-set_size c).After-size_of-old in
    leaves_within c.self.inside.version _ _ _ _ _ _ c.slot-slot.result _ c.content_block-last.result _ c.self.invariant.0 k (rw k.same_version at c.requires.allowed) c.requires.longer c.requires.partly c.requires.within
    refl
    (c.content_block-last.ensures ∙ ap (owned_at c.self.inside.version c.self.inside.blocks.blocks c.slot-slot.result) place)
    (rw c.size_of-old.ensures at c.put_zeros.ensures)
    c.set_size.ensures

pub invariant_of-self : goal.invariant_of-self
invariant_of-self c = ((left c).sound, all_used-files_with_bytes _ _ _ _ _ _ c.self.invariant.1 c.self.view_is (left c).files, none_used-files_with_bytes _ _ _ _ _ _ c.self.invariant.2 c.self.view_is (left c).files)

pub returns : goal.returns
returns c = (left c).files
