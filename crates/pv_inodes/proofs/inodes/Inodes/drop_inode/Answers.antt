use Rattle.std.proofs.Common.{◌≡◌, suc, length, sym, ap, ◌∙◌}
use Rattle.pv_blocks.specs.BlockStore.{BlockStore}
use Rattle.pv_inodes.specs.Files.{Files, without}
use Rattle.pv_inodes.specs.Layout.{size_at}
use Rattle.pv_inodes.specs.Sound.{files_of, rekinded}
use Rattle.pv_inodes.proofs.ByteLists.{length-resize}
use Rattle.pv_inodes.proofs.EditedFiles.{used-left, inode_bytes_at-left, without-left}
use Rattle.pv_inodes.proofs.UsedInodes.{InUse, in_use}
use Rattle.pv_inodes.proofs.GreatestUsedInode.{none_used-without}
use Rattle.pv_inodes.proofs.LeastFreeInode.{all_used-without}
use Rattle.pv_inodes.proofs.InodeCreation.{sound_dropped, files_of-dropped}
use Rattle.pv_inodes.proofs.inodes.Inodes.drop_inode.Goals as goal
use Rattle.pv_inodes.proofs.inodes.Inodes.drop_inode.Goals.{After-slot-slot, After-set_kind}

pub slot-slot-requires : goal.slot-slot-requires
slot-slot-requires c = used-left _ _ _ _ c.requires c.shrink.ensures

known : (c : After-slot-slot) → InUse c.self.inside.version c.self.inside.blocks c.self.inside.inodes c.shrink.new.self c.args.inode c.slot-slot.result
known c = in_use c.self.inside.version _ _ _ _ _ c.self.invariant.0 c.self.view_is (used-left _ _ _ _ c.requires c.shrink.ensures) c.slot-slot.ensures

pub set_kind-requires : goal.set_kind-requires
set_kind-requires c = (known (goal.at.set_kind-requires c).After-slot-slot).home_within

-- no bytes remain
empty : (c : After-slot-slot) → size_at c.self.inside.version c.self.inside.blocks.blocks c.slot-slot.result ≡ 0
empty c = (known c).size ∙ ap length (inode_bytes_at-left _ _ _ _ c.requires c.shrink.ensures) ∙ length-resize _ _

-- the kind field of the inode is cleared
dropped : (c : After-set_kind) → c.set_kind.new.blocks ≡ rekinded c.self.inside.version c.self.inside.blocks c.slot-slot.result 0
unfolding rekinded
dropped c = c.set_kind.ensures

given_up : (c : After-set_kind) → files_of c.self.inside.version c.set_kind.new.blocks c.self.inside.inodes ≡ without c.shrink.new.self c.args.inode
given_up c =
    let start = (goal.at.After-set_kind c).After-slot-slot in
    let k = known start in
    ap (λ (st : BlockStore). files_of c.self.inside.version st c.self.inside.inodes) (dropped c)
    ∙ files_of-dropped c.self.inside.version _ _ _ c.self.invariant.0 k.below k.used (empty start)
    ∙ ap (λ (f : Files). without f (suc c.slot-slot.result)) c.self.view_is
    ∙ ap (without c.shrink.new.self) (sym k.number)

pub invariant_of-self : goal.invariant_of-self
invariant_of-self c =
    let start = (goal.at.invariant_of-self c).After-slot-slot in
    let after = (goal.at.invariant_of-self c).After-set_kind in
    let k = known start in (
      rw (dropped after) (sound_dropped c.self.inside.version _ _ _ c.self.invariant.0 k.below k.used (empty start)),
      rw c.min-self-inside.ensures (all_used-without _ _ _ _ _ _ c.self.invariant.1 c.self.view_is c.slot-slot.ensures (given_up after)),
      none_used-without _ _ _ _ _ c.self.invariant.2 c.self.view_is (given_up after),
    )

pub returns : goal.returns
returns c = given_up (goal.at.returns c).After-set_kind ∙ without-left _ _ _ _ c.requires c.shrink.ensures
