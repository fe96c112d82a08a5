use Rattle.std.proofs.Common.{◌≡◌, length, ap, ◌∙◌, arith}
use Rattle.std.proofs.lemmas.Bool.{leb-true, leb-false}
use Rattle.pv_inodes.specs.Files.{inode_bytes_at}
use Rattle.pv_inodes.specs.Layout.{wanted}
use Rattle.pv_inodes.proofs.UsedInodes.{InUse, in_use}
use Rattle.pv_inodes.proofs.InodeLayouts.{greatest_length-most}
use Rattle.pv_inodes.proofs.ReadResults.{has_room_if, lacks_room_if}
use Rattle.pv_inodes.proofs.inodes.Inodes.has_room.Goals as goal
use Rattle.pv_inodes.proofs.inodes.Inodes.has_room.Goals.{After-self, After-room-owned}

known : (c : After-self) → InUse c.self.inside.version c.self.inside.blocks c.self.inside.inodes c.args.self.now c.args.inode c.slot-slot.result
known c = in_use c.self.inside.version _ _ _ _ _ c.self.invariant.0 c.self.view_is c.requires.used c.slot-slot.ensures

pub size_of-requires : goal.size_of-requires
size_of-requires c = (known (goal.at.size_of-requires c).After-self).home_within

pub room-owned-requires : goal.room-owned-requires
room-owned-requires c = let k = known (goal.at.room-owned-requires c).After-self in omega (arith, c.size_of.ensures, k.allowed, greatest_length-most c.self.inside.version)

pub room-requires : goal.room-requires
room-requires c = omega (arith, c.requires.allowed, greatest_length-most c.args.self.now.version)

owned_is : (c : After-room-owned) → c.room-owned.result ≡ wanted (length (inode_bytes_at c.args.self.now c.args.inode))
owned_is c = c.room-owned.ensures ∙ ap wanted (c.size_of.ensures ∙ (known (goal.at.After-room-owned c).After-self).size)

pub returns-clause-enough : goal.returns-clause-enough
returns-clause-enough c enough =
    let k = known (goal.at.returns-clause-enough c).After-self in
    let owned = owned_is (goal.at.returns-clause-enough c).After-room-owned in
    has_room_if c.self.inside.version _ _ _ _ c.slot-slot.result _ c.self.invariant.0 c.self.view_is c.requires.used k (rw k.same_version at c.requires.allowed)
    (omega (arith, leb-true _ _ enough, owned, c.room.ensures, c.saturating_sub.ensures, c.free.ensures))

pub returns-clause-wanting : goal.returns-clause-wanting
returns-clause-wanting c wanting =
    let k = known (goal.at.returns-clause-wanting c).After-self in
    let owned = owned_is (goal.at.returns-clause-wanting c).After-room-owned in
    lacks_room_if c.self.inside.version _ _ _ _ c.slot-slot.result _ c.self.invariant.0 c.self.view_is c.requires.used k (rw k.same_version at c.requires.allowed)
    (omega (arith, leb-false _ _ wanting, owned, c.room.ensures, c.saturating_sub.ensures, c.free.ensures))
