use Rattle.std.proofs.Common.{◌≡◌, ◌≤◌, ◌+◌, suc, length, sym, ap, ◌∙◌, arith}
use Rattle.pv_blocks.specs.BlockStore.{free_count}
use Rattle.pv_model.specs.Machine.{resize}
use Rattle.pv_inodes.proofs.ByteLists.{length-resize}
use Rattle.pv_inodes.specs.Files.{inode_bytes_at}
use Rattle.pv_inodes.specs.Layout.{most_owned, wanted}
use Rattle.pv_inodes.proofs.UsedInodes.{InUse, in_use}
use Rattle.pv_inodes.proofs.InodeLayouts.{greatest_length-most, index_pointers-few, wanted-most}
use Rattle.pv_inodes.proofs.GreatestUsedInode.{none_used-files_with_bytes}
use Rattle.pv_inodes.proofs.LeastFreeInode.{all_used-files_with_bytes}
use Rattle.pv_inodes.proofs.MethodResults.{Leaves, TakesIndex, takes_index, leaves_by_index, length-pushed, free_count-pushed, wanted_next, room_enough}
use Rattle.pv_inodes.proofs.inodes.Inodes.grow_by_index.Goals as goal
use Rattle.pv_inodes.proofs.inodes.Inodes.grow_by_index.Goals.{After-slot-slot, After-room-owned, After-push_block-index, After-set_size}

known : (c : After-slot-slot) → InUse c.self.inside.version c.self.inside.blocks c.self.inside.inodes c.args.self.now c.args.inode c.slot-slot.result
known c = in_use c.self.inside.version _ _ _ _ _ c.self.invariant.0 c.self.view_is c.requires.used c.slot-slot.ensures

pub size_of-requires : goal.size_of-requires
size_of-requires c = (known (goal.at.size_of-requires c).After-slot-slot).home_within

pub room-owned-requires : goal.room-owned-requires
room-owned-requires c = let k = known (goal.at.room-owned-requires c).After-slot-slot in omega (arith, c.size_of.ensures, k.allowed, greatest_length-most c.self.inside.version)

owned_is : (c : After-room-owned) → c.room-owned.result ≡ wanted (length (inode_bytes_at c.args.self.now c.args.inode))
owned_is c = c.room-owned.ensures ∙ ap wanted (c.size_of.ensures ∙ (known (goal.at.After-room-owned c).After-slot-slot).size)

-- two more blocks are needed
more : (c : After-room-owned) → wanted c.args.size ≡ c.room-owned.result + 2
more c = omega (arith, owned_is c, wanted_next (length (inode_bytes_at c.args.self.now c.args.inode)) c.args.size c.requires.full c.requires.longer c.requires.within, c.requires.next)

enough : (c : After-room-owned) → 2 ≤ free_count c.self.inside.blocks
enough c =
    let k = known (goal.at.After-room-owned c).After-slot-slot in
    let long = length-resize (inode_bytes_at c.args.self.now c.args.inode) c.args.size in
    let allowed = rw k.same_version at c.requires.allowed in
    let room = room_enough c.self.inside.version _ _ _ _ _ _ c.self.invariant.0 c.self.view_is c.requires.used k (rw long allowed) c.requires.room in
    omega (arith, rw long at room, more c, owned_is c)

within_row : (c : After-room-owned) → c.room-owned.result + 2 ≤ most_owned c.self.inside.version
within_row c =
    let k = known (goal.at.After-room-owned c).After-slot-slot in
    omega (arith, more c, wanted-most c.self.inside.version c.args.size (rw k.same_version at c.requires.allowed))

index : (c : After-push_block-index) → TakesIndex c.self.inside.version c.self.inside.blocks c.push_block-index.new.blocks c.slot-slot.result c.room-owned.result
index c =
    let before = (goal.at.After-push_block-index c).After-room-owned in
    let k = known (goal.at.After-push_block-index c).After-slot-slot in
    takes_index c.self.inside.version _ _ _ _ _ _ _ c.push_block-index.result c.self.invariant.0 k (owned_is before) (omega (arith, within_row before)) c.push_block-index.type_inv c.push_block-index.ensures.free c.push_block-index.ensures.after

pub push_block-index-requires-clause-free : goal.push_block-index-requires-clause-free
push_block-index-requires-clause-free c none = omega (arith, enough (goal.at.push_block-index-requires-clause-free c).After-room-owned)

pub push_block-index-requires-clause-home : goal.push_block-index-requires-clause-home
push_block-index-requires-clause-home c = (known (goal.at.push_block-index-requires-clause-home c).After-slot-slot).home_first

pub push_block-index-requires-clause-owned : goal.push_block-index-requires-clause-owned
push_block-index-requires-clause-owned c = omega (arith, within_row (goal.at.push_block-index-requires-clause-owned c).After-room-owned)

-- an index block before the new one is already owned
pub push_block-index-requires-clause-index : goal.push_block-index-requires-clause-index
push_block-index-requires-clause-index c following =
    let k = known (goal.at.push_block-index-requires-clause-index c).After-slot-slot in
    let owned = owned_is (goal.at.push_block-index-requires-clause-index c).After-room-owned in
    k.next_within c.room-owned.result (owned ∙ ap wanted (sym k.size) ∙ sym k.count) following

pub overflow_add-owned : goal.overflow_add-owned
overflow_add-owned c = omega (arith, within_row (goal.at.overflow_add-owned c).After-room-owned, index_pointers-few c.self.inside.version)

pub push_block-block-requires-clause-free : goal.push_block-block-requires-clause-free
push_block-block-requires-clause-free c none =
    omega (arith, enough (goal.at.push_block-block-requires-clause-free c).After-room-owned, free_count-pushed c.self.inside.version _ _ _ _ _ c.push_block-index.ensures.free c.push_block-index.ensures.after)

pub push_block-block-requires-clause-home : goal.push_block-block-requires-clause-home
push_block-block-requires-clause-home c = (index (goal.at.push_block-block-requires-clause-home c).After-push_block-index).home_first

pub push_block-block-requires-clause-first : goal.push_block-block-requires-clause-first
push_block-block-requires-clause-first c = (index (goal.at.push_block-block-requires-clause-first c).After-push_block-index).first_within

pub push_block-block-requires-clause-whole : goal.push_block-block-requires-clause-whole
push_block-block-requires-clause-whole c = (index (goal.at.push_block-block-requires-clause-whole c).After-push_block-index).flags

pub push_block-block-requires-clause-owned : goal.push_block-block-requires-clause-owned
push_block-block-requires-clause-owned c = omega (arith, within_row (goal.at.push_block-block-requires-clause-owned c).After-room-owned)

pub push_block-block-requires-clause-index : goal.push_block-block-requires-clause-index
push_block-block-requires-clause-index c following =
    let next : c.room-owned.result + 1 ≡ suc c.room-owned.result = omega arith in
    rw next ((index (goal.at.push_block-block-requires-clause-index c).After-push_block-index).index_within (rw next at following))

pub set_size-requires : goal.set_size-requires
set_size-requires c =
    let k = known (goal.at.set_size-requires c).After-slot-slot in
    let taken = index (goal.at.set_size-requires c).After-push_block-index in
    rw (length-pushed c.self.inside.version _ _ _ _ _ c.push_block-block.ensures.after, taken.total) k.home_within

left : (c : After-set_size) → Leaves c.self.inside.version c.set_size.new.blocks c.self.inside.inodes c.args.self.now c.args.inode (resize (inode_bytes_at c.args.self.now c.args.inode) c.args.size)
left c =
    let k = known (goal.at.After-set_size c).After-slot-slot in
    let next : c.room-owned.result + 1 ≡ suc c.room-owned.result = omega arith in
    leaves_by_index c.self.inside.version _ _ _ _ _ _ _ c.slot-slot.result _ c.room-owned.result c.push_block-index.result c.push_block-block.result c.self.invariant.0 k (rw k.same_version at c.requires.allowed) c.requires.longer c.requires.full c.requires.within c.requires.next
    (owned_is (goal.at.After-set_size c).After-room-owned)
    c.push_block-index.type_inv c.push_block-index.ensures.free c.push_block-index.ensures.after
    c.push_block-block.type_inv c.push_block-block.ensures.free (rw next at c.push_block-block.ensures.after) c.set_size.ensures

pub invariant_of-self : goal.invariant_of-self
invariant_of-self c = ((left c).sound, all_used-files_with_bytes _ _ _ _ _ _ c.self.invariant.1 c.self.view_is (left c).files, none_used-files_with_bytes _ _ _ _ _ _ c.self.invariant.2 c.self.view_is (left c).files)

pub returns : goal.returns
returns c = (left c).files
