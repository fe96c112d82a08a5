use Rattle.std.proofs.Common.{◌≡◌, ◌-◌, suc, List, length, refl, ap, sym, subst, ◌∙◌, arith}
use Rattle.pv_model.specs.Machine.{Bytes, resize}
use Rattle.pv_inodes.specs.Files.{inode_bytes_at}
use Rattle.pv_inodes.specs.Layout.{owned_at, owned_count, wanted}
use Rattle.pv_inodes.proofs.ContentGrowth.{Reduced, reduced_none, reduced_more, MayGiveBack, may_give_back, reduced-index}
use Rattle.pv_inodes.proofs.UsedInodes.{InUse, in_use}
use Rattle.pv_inodes.proofs.InodeLayouts.{greatest_length-most, wanted-mono}
use Rattle.pv_inodes.proofs.GreatestUsedInode.{none_used-files_with_bytes}
use Rattle.pv_inodes.proofs.LeastFreeInode.{all_used-files_with_bytes}
use Rattle.pv_inodes.proofs.MethodResults.{Leaves, leaves_reduced}
use Rattle.pv_inodes.proofs.inodes.Inodes.shrink.Goals as goal
use Rattle.pv_inodes.proofs.inodes.Inodes.shrink.Goals.{After-slot-slot, After-room-owned, In-loop-owned, After-owned_by-block, After-set_size}

known : (c : After-slot-slot) → InUse c.self.inside.version c.self.inside.blocks c.self.inside.inodes c.args.self.now c.args.inode c.slot-slot.result
known c = in_use c.self.inside.version _ _ _ _ _ c.self.invariant.0 c.self.view_is c.requires.used c.slot-slot.ensures

pub size_of-requires : goal.size_of-requires
size_of-requires c = (known (goal.at.size_of-requires c).After-slot-slot).home_within

pub room-owned-requires : goal.room-owned-requires
room-owned-requires c = let k = known (goal.at.room-owned-requires c).After-slot-slot in omega (arith, c.size_of.ensures, k.allowed, greatest_length-most c.self.inside.version)

pub room-preserved-requires : goal.room-preserved-requires
room-preserved-requires c = let k = known (goal.at.room-preserved-requires c).After-slot-slot in omega (arith, c.requires.shorter, k.size, k.allowed, greatest_length-most c.self.inside.version)

-- at first, all blocks remain
owned_is : (c : After-room-owned) → owned_count c.self.inside.version c.self.inside.blocks.blocks c.slot-slot.result ≡ c.room-owned.result
owned_is c =
    let k = known (goal.at.After-room-owned c).After-slot-slot in
    k.count ∙ ap wanted (sym c.size_of.ensures) ∙ sym c.room-owned.ensures

pub loop-owned-init : goal.loop-owned-init
loop-owned-init c =
    let k = known (goal.at.loop-owned-init c).After-slot-slot in
    let owned = owned_is (goal.at.loop-owned-init c).After-room-owned in
    let fewer = wanted-mono c.args.size (length (inode_bytes_at c.args.self.now c.args.inode)) c.requires.shorter in
    let all = ap wanted k.size in
    record {
      least = omega (arith, c.room-preserved.ensures, owned, k.count, fewer, all);
      most = omega (arith, owned, k.few);
      inodes = refl;
      version = refl;
      start = refl;
      end = refl;
      reduced = rw owned at (reduced_none c.self.inside.version c.self.inside.blocks c.self.inside.inodes c.slot-slot.result c.self.invariant.0);
    }

-- one more block remains than at the end of the iteration
left_so_far : (c : In-loop-owned) → Reduced c.self.inside.version c.self.inside.blocks c.loop-owned.self-inside.blocks c.self.inside.inodes c.slot-slot.result (suc (c.loop-owned.owned - 1))
left_so_far c =
    let more : c.loop-owned.owned ≡ suc (c.loop-owned.owned - 1) = omega arith in
    subst (Reduced c.self.inside.version c.self.inside.blocks c.loop-owned.self-inside.blocks c.self.inside.inodes c.slot-slot.result) more c.loop-owned.invariant.reduced

may : (c : In-loop-owned) → MayGiveBack c.self.inside.version c.self.inside.blocks c.loop-owned.self-inside.blocks c.slot-slot.result (c.loop-owned.owned - 1)
may c = may_give_back c.self.inside.version _ _ _ _ _ (known (goal.at.In-loop-owned c).After-slot-slot).below (left_so_far c)

block_is : (c : After-owned_by-block) → c.owned_by-block.result ≡ owned_at c.self.inside.version c.self.inside.blocks.blocks c.slot-slot.result (c.loop-owned.owned - 1)
block_is c = rw c.loop-owned.invariant.version at c.owned_by-block.ensures ∙ ap (λ (bs : List Bytes). owned_at c.self.inside.version bs c.slot-slot.result (c.loop-owned.owned - 1)) c.loop-owned.invariant.reduced.blocks

pub owned_by-block-requires-clause-block : goal.owned_by-block-requires-clause-block
owned_by-block-requires-clause-block c = rw (c.loop-owned.invariant.version, c.loop-owned.invariant.reduced.blocks) (known (goal.at.owned_by-block-requires-clause-block c).After-slot-slot).home_within

pub owned_by-block-requires-clause-owned : goal.owned_by-block-requires-clause-owned
owned_by-block-requires-clause-owned c = rw c.loop-owned.invariant.version (omega (arith, c.loop-owned.invariant.most))

pub owned_by-block-requires-clause-index : goal.owned_by-block-requires-clause-index
owned_by-block-requires-clause-index c following =
    let k = known (goal.at.owned_by-block-requires-clause-index c).After-slot-slot in
    rw c.loop-owned.invariant.version (reduced-index c.self.inside.version _ _ _ _ _ _ k.below c.loop-owned.invariant.reduced (omega arith))

pub give_back-requires-clause-from : goal.give_back-requires-clause-from
give_back-requires-clause-from c = rw (block_is (goal.at.give_back-requires-clause-from c).After-owned_by-block) (may (goal.at.give_back-requires-clause-from c).In-loop-owned).from

pub give_back-requires-clause-taken : goal.give_back-requires-clause-taken
give_back-requires-clause-taken c = rw (block_is (goal.at.give_back-requires-clause-taken c).After-owned_by-block) (may (goal.at.give_back-requires-clause-taken c).In-loop-owned).taken

pub loop-owned-preserved : goal.loop-owned-preserved
loop-owned-preserved c =
    let k = known (goal.at.loop-owned-preserved c).After-slot-slot in
    let given = reduced_more c.self.inside.version _ _ _ _ _ k.below (left_so_far (goal.at.loop-owned-preserved c).In-loop-owned) in
    record {
      least = omega arith;
      most = omega (arith, c.loop-owned.invariant.most);
      inodes = c.loop-owned.invariant.inodes;
      version = c.loop-owned.invariant.version;
      start = c.loop-owned.invariant.start;
      end = c.loop-owned.invariant.end;
      reduced = rw (c.give_back.ensures, block_is (goal.at.loop-owned-preserved c).After-owned_by-block) given;
    }

pub set_size-requires : goal.set_size-requires
set_size-requires c = rw (c.loop-owned.invariant.version, c.loop-owned.invariant.reduced.blocks) (known (goal.at.set_size-requires c).After-slot-slot).home_within

left : (c : After-set_size) → Leaves c.self.inside.version c.set_size.new.blocks c.self.inside.inodes c.args.self.now c.args.inode (resize (inode_bytes_at c.args.self.now c.args.inode) c.args.size)
left c =
    let k = known (goal.at.After-set_size c).After-slot-slot in
    let all : c.loop-owned.owned ≡ wanted c.args.size = omega (arith, c.room-preserved.ensures, c.loop-owned.invariant.least) in
    leaves_reduced c.self.inside.version _ _ _ _ _ _ c.slot-slot.result _ c.self.invariant.0 k c.requires.shorter (rw all at c.loop-owned.invariant.reduced) (rw c.loop-owned.invariant.version at c.set_size.ensures)

pub invariant_of-self : goal.invariant_of-self
invariant_of-self c =
    rw (c.loop-owned.invariant.inodes, c.loop-owned.invariant.version, c.loop-owned.invariant.start, c.loop-owned.invariant.end) ((left c).sound, all_used-files_with_bytes _ _ _ _ _ _ c.self.invariant.1 c.self.view_is (left c).files, none_used-files_with_bytes _ _ _ _ _ _ c.self.invariant.2 c.self.view_is (left c).files)

pub returns : goal.returns
returns c = rw (c.loop-owned.invariant.inodes, c.loop-owned.invariant.version) (left c).files
