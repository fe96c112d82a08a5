use Rattle.std.proofs.Common.{◌≡◌, ◌+◌, ◌<◌, suc, length, refl, sym, ap, ◌∙◌, arith}
use Rattle.pv_blocks.specs.BlockStore.{BlockStore}
use Rattle.pv_inodes.specs.Files.{Files, held, kind_of_number, with_new}
use Rattle.pv_inodes.specs.Layout.{kind_at, with_kind}
use Rattle.pv_inodes.specs.Sound.{files_of, resized_store, rekinded}
use Rattle.pv_inodes.proofs.ChangedInode.{held-files_of}
use Rattle.pv_inodes.proofs.GreatestUsedInode.{none_used-with_new}
use Rattle.pv_inodes.proofs.LeastFreeInode.{all_used-with_new}
use Rattle.pv_inodes.proofs.InodeCreation.{home_within, sound_made, files_of-made, total_sized}
use Rattle.pv_inodes.proofs.ReadResults.{node_none, length-files_of}
use Rattle.pv_inodes.proofs.inodes.Inodes.fresh.Goals as goal
use Rattle.pv_inodes.proofs.inodes.Inodes.fresh.Goals.{In_ok-slot, After-set_kind}

-- the inode is within the table, and free
below : (c : In_ok-slot) → c.in_ok-slot.slot < c.self.inside.inodes
below c = omega (arith, ap (λ (f : Files). length f.nodes) c.self.view_is, length-files_of c.self.inside.version c.self.inside.blocks c.self.inside.inodes, c.in_ok-slot.ensures.within)

unused : (c : In_ok-slot) → kind_at c.self.inside.version c.self.inside.blocks.blocks c.in_ok-slot.slot ≡ 0
unused c =
    let next : suc c.in_ok-slot.slot ≡ c.in_ok-slot.slot + 1 = omega arith in
    node_none c.self.inside.version _ _ (sym (held-files_of c.self.inside.version c.self.inside.blocks c.self.inside.inodes c.in_ok-slot.slot (below c)) ∙ ap (λ (f : Files). held f (suc c.in_ok-slot.slot)) c.self.view_is ∙ ap (held c.args.self.now) next ∙ c.in_ok-slot.ensures.free)

pub set_size-requires : goal.set_size-requires
set_size-requires c = home_within c.self.inside.version _ _ _ c.self.invariant.0 (below (goal.at.set_size-requires c).In_ok-slot)

pub set_kind-requires : goal.set_kind-requires
set_kind-requires c =
    let start = (goal.at.set_kind-requires c).In_ok-slot in
    let long = ap (λ (st : BlockStore). length st.blocks) c.set_size.ensures ∙ total_sized c.self.inside.version c.self.inside.blocks c.self.inside.inodes c.in_ok-slot.slot c.self.invariant.0 (below start) (unused start) 1 (omega arith) (omega arith) in
    rw long (home_within c.self.inside.version _ _ _ c.self.invariant.0 (below start))

pub overflow_add-slot : goal.overflow_add-slot
overflow_add-slot c = omega (arith, below (goal.at.overflow_add-slot c).In_ok-slot)

pub overflow_add-result : goal.overflow_add-result
overflow_add-result c = omega (arith, below (goal.at.overflow_add-result c).In_ok-slot)

-- the length and the kind field of the inode are written
made : (c : After-set_kind) → c.set_kind.new.blocks ≡ rekinded c.self.inside.version (resized_store c.self.inside.version c.self.inside.blocks c.in_ok-slot.slot 0) c.in_ok-slot.slot c.number_of.result
unfolding rekinded resized_store
made c = c.set_kind.ensures ∙ ap (λ (st : BlockStore). record st { blocks = with_kind c.self.inside.version st.blocks c.in_ok-slot.slot c.number_of.result }) c.set_size.ensures

taken : (c : After-set_kind) → files_of c.self.inside.version c.set_kind.new.blocks c.self.inside.inodes ≡ with_new c.args.self.now (c.in_ok-slot.slot + 1) (kind_of_number c.number_of.result)
taken c =
    let start = (goal.at.After-set_kind c).In_ok-slot in
    let next : suc c.in_ok-slot.slot ≡ c.in_ok-slot.slot + 1 = omega arith in
    ap (λ (st : BlockStore). files_of c.self.inside.version st c.self.inside.inodes) (made c)
    ∙ files_of-made c.self.inside.version _ _ _ c.self.invariant.0 (below start) (unused start) c.number_of.result c.number_of.ensures.some c.number_of.ensures.few
    ∙ ap (λ (f : Files). with_new f (suc c.in_ok-slot.slot) (kind_of_number c.number_of.result)) c.self.view_is
    ∙ ap (λ n. with_new c.args.self.now n (kind_of_number c.number_of.result)) next

pub invariant_of-self : goal.invariant_of-self
invariant_of-self c =
    let start = (goal.at.invariant_of-self c).In_ok-slot in (
      rw (made c) (sound_made c.self.inside.version _ _ _ c.self.invariant.0 (below start) (unused start) c.number_of.result c.number_of.ensures.some c.number_of.ensures.few),
      all_used-with_new _ _ _ _ _ _ c.in_ok-slot.ensures.used refl (taken c),
      none_used-with_new _ _ _ _ _ c.self.inside.most _ c.self.invariant.2 c.self.view_is (taken c) c.in_ok-slot.ensures.within (omega arith) (omega arith),
    )

pub returns-clause-after : goal.returns-clause-after
returns-clause-after c = taken c ∙ ap (with_new c.args.self.now (c.in_ok-slot.slot + 1)) c.number_of.ensures.back
