use Rattle.std.proofs.Common.{◌≡◌, ◌+◌, length, ap, sym, ◌∙◌, arith}
use Rattle.pv_model.specs.Machine.{resize}
use Rattle.pv_inodes.proofs.ByteLists.{length-resize}
use Rattle.pv_inodes.specs.Files.{inode_bytes_at}
use Rattle.pv_inodes.specs.Layout.{owned_count, wanted}
use Rattle.pv_inodes.proofs.UsedInodes.{InUse, in_use}
use Rattle.pv_inodes.proofs.InodeLayouts.{greatest_length-most, wanted-most}
use Rattle.pv_inodes.proofs.GreatestUsedInode.{none_used-files_with_bytes}
use Rattle.pv_inodes.proofs.LeastFreeInode.{all_used-files_with_bytes}
use Rattle.pv_inodes.proofs.MethodResults.{Leaves, leaves_by_block, length-pushed, wanted_next, room_enough}
use Rattle.pv_inodes.proofs.inodes.Inodes.grow_by_block.Goals as goal
use Rattle.pv_inodes.proofs.inodes.Inodes.grow_by_block.Goals.{After-slot-slot, After-room-owned, After-set_size}

known : (c : After-slot-slot) → InUse c.self.inside.version c.self.inside.blocks c.self.inside.inodes c.args.self.now c.args.inode c.slot-slot.result
known c = in_use c.self.inside.version _ _ _ _ _ c.self.invariant.0 c.self.view_is c.requires.used c.slot-slot.ensures

pub size_of-requires : goal.size_of-requires
size_of-requires c = (known (goal.at.size_of-requires c).After-slot-slot).home_within

pub room-owned-requires : goal.room-owned-requires
room-owned-requires c = let k = known (goal.at.room-owned-requires c).After-slot-slot in omega (arith, c.size_of.ensures, k.allowed, greatest_length-most c.self.inside.version)

-- one more block is needed
owned_is : (c : After-room-owned) → c.room-owned.result ≡ wanted (length (inode_bytes_at c.args.self.now c.args.inode))
owned_is c = c.room-owned.ensures ∙ ap wanted (c.size_of.ensures ∙ (known (goal.at.After-room-owned c).After-slot-slot).size)

more : (c : After-slot-slot) → wanted c.args.size ≡ wanted (length (inode_bytes_at c.args.self.now c.args.inode)) + 1
more c = omega (arith, wanted_next (length (inode_bytes_at c.args.self.now c.args.inode)) c.args.size c.requires.full c.requires.longer c.requires.within, c.requires.next)

pub push_block-block-requires-clause-free : goal.push_block-block-requires-clause-free
push_block-block-requires-clause-free c none =
    let k = known (goal.at.push_block-block-requires-clause-free c).After-slot-slot in
    let long = length-resize (inode_bytes_at c.args.self.now c.args.inode) c.args.size in
    let allowed = rw k.same_version at c.requires.allowed in
    let enough = room_enough c.self.inside.version _ _ _ _ _ _ c.self.invariant.0 c.self.view_is c.requires.used k (rw long allowed) c.requires.room in
    omega (arith, rw long at enough, more (goal.at.push_block-block-requires-clause-free c).After-slot-slot)

pub push_block-block-requires-clause-home : goal.push_block-block-requires-clause-home
push_block-block-requires-clause-home c = (known (goal.at.push_block-block-requires-clause-home c).After-slot-slot).home_first

pub push_block-block-requires-clause-owned : goal.push_block-block-requires-clause-owned
push_block-block-requires-clause-owned c =
    let k = known (goal.at.push_block-block-requires-clause-owned c).After-slot-slot in
    omega (arith, owned_is (goal.at.push_block-block-requires-clause-owned c).After-room-owned, more (goal.at.push_block-block-requires-clause-owned c).After-slot-slot, wanted-most c.self.inside.version c.args.size (rw k.same_version at c.requires.allowed))

-- an index block before the block is already owned
pub push_block-block-requires-clause-index : goal.push_block-block-requires-clause-index
push_block-block-requires-clause-index c following =
    let k = known (goal.at.push_block-block-requires-clause-index c).After-slot-slot in
    let owned = owned_is (goal.at.push_block-block-requires-clause-index c).After-room-owned in
    let counts : owned_count c.self.inside.version c.self.inside.blocks.blocks c.slot-slot.result ≡ c.room-owned.result = k.count ∙ ap wanted k.size ∙ sym owned in
    k.next_within c.room-owned.result (sym counts) following

pub set_size-requires : goal.set_size-requires
set_size-requires c =
    let k = known (goal.at.set_size-requires c).After-slot-slot in
    rw (length-pushed c.self.inside.version _ _ _ _ _ c.push_block-block.ensures.after) k.home_within

left : (c : After-set_size) → Leaves c.self.inside.version c.set_size.new.blocks c.self.inside.inodes c.args.self.now c.args.inode (resize (inode_bytes_at c.args.self.now c.args.inode) c.args.size)
left c =
    let k = known (goal.at.After-set_size c).After-slot-slot in
    leaves_by_block c.self.inside.version _ _ _ _ _ _ c.slot-slot.result _ _ c.push_block-block.result c.self.invariant.0 k (rw k.same_version at c.requires.allowed) c.requires.longer c.requires.full c.requires.within c.requires.next
    (owned_is (goal.at.After-set_size c).After-room-owned) c.push_block-block.type_inv c.push_block-block.ensures.free c.push_block-block.ensures.after c.set_size.ensures

pub invariant_of-self : goal.invariant_of-self
invariant_of-self c = ((left c).sound, all_used-files_with_bytes _ _ _ _ _ _ c.self.invariant.1 c.self.view_is (left c).files, none_used-files_with_bytes _ _ _ _ _ _ c.self.invariant.2 c.self.view_is (left c).files)

pub returns : goal.returns
returns c = (left c).files
