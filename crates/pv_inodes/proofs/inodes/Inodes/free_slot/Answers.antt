use Rattle.std.proofs.Common.{◌≡◌, ◌+◌, suc, length, refl, sym, ap, subst, ◌∙◌, arith}
use Rattle.std.proofs.lemmas.Bool.{true≢false}
use Rattle.pv_inodes.specs.Files.{Files, held, new_inode}
use Rattle.pv_inodes.specs.Layout.{kind_at}
use Rattle.pv_inodes.specs.Sound.{AllUsed}
use Rattle.pv_inodes.proofs.ChangedInode.{held-files_of}
use Rattle.pv_inodes.proofs.InodeContents.{contained_at-free}
use Rattle.pv_inodes.proofs.LeastFreeInode.{all_used-kinds, all_used-within, kinds-all_used}
use Rattle.pv_inodes.proofs.InodeCreation.{home_within}
use Rattle.pv_inodes.proofs.ReadResults.{new_inode-found, new_inode-none, length-files_of}
use Rattle.pv_inodes.proofs.inodes.Inodes.free_slot.Goals as goal
use Rattle.pv_inodes.proofs.inodes.Inodes.free_slot.Goals.{Then-kind_of-eq-FREE}

pub kind_of-requires : goal.kind_of-requires
kind_of-requires c = home_within c.self.inside.version _ _ _ c.self.invariant.0 c.loop-slot-test.true

-- the inode is the least free one
found : (c : Then-kind_of-eq-FREE) → new_inode c.args.self.now ≡ suc c.loop-slot.slot
found c =
    let unused : kind_at c.self.inside.version c.self.inside.blocks.blocks c.loop-slot.slot ≡ 0 = sym c.kind_of.ensures ∙ c.if-kind_of-eq-FREE.true in
    ap new_inode (sym c.self.view_is) ∙ new_inode-found c.self.inside.version c.self.inside.blocks c.self.inside.inodes c.loop-slot.slot c.loop-slot-test.true unused c.loop-slot.invariant

long : (c : Then-kind_of-eq-FREE) → length c.args.self.now.nodes ≡ suc c.self.inside.inodes
long c = ap (λ (f : Files). length f.nodes) (sym c.self.view_is) ∙ length-files_of c.self.inside.version c.self.inside.blocks c.self.inside.inodes

pub loop-slot-init : goal.loop-slot-init
loop-slot-init c = all_used-kinds c.self.inside.version c.self.inside.blocks c.self.inside.inodes c.self.inside.least c.self.invariant.1

pub returns-then-kind_of-eq-FREE-clause-used : goal.returns-then-kind_of-eq-FREE-clause-used
returns-then-kind_of-eq-FREE-clause-used c =
    let used = kinds-all_used c.self.inside.version c.self.inside.blocks c.self.inside.inodes c.loop-slot.slot (omega (arith, c.loop-slot-test.true)) c.loop-slot.invariant in
    subst (λ (f : Files). AllUsed f c.loop-slot.slot) c.self.view_is used

pub returns-then-kind_of-eq-FREE-clause-least : goal.returns-then-kind_of-eq-FREE-clause-least
returns-then-kind_of-eq-FREE-clause-least c = omega (arith, found c)

pub returns-then-kind_of-eq-FREE-clause-free : goal.returns-then-kind_of-eq-FREE-clause-free
returns-then-kind_of-eq-FREE-clause-free c =
    let unused : kind_at c.self.inside.version c.self.inside.blocks.blocks c.loop-slot.slot ≡ 0 = sym c.kind_of.ensures ∙ c.if-kind_of-eq-FREE.true in
    let next : c.loop-slot.slot + 1 ≡ suc c.loop-slot.slot = omega arith in
    rw next (ap (λ (f : Files). held f (suc c.loop-slot.slot)) (sym c.self.view_is) ∙ held-files_of c.self.inside.version c.self.inside.blocks c.self.inside.inodes c.loop-slot.slot c.loop-slot-test.true ∙ contained_at-free c.self.inside.version c.self.inside.blocks.blocks c.loop-slot.slot unused)

pub returns-then-kind_of-eq-FREE-clause-within : goal.returns-then-kind_of-eq-FREE-clause-within
returns-then-kind_of-eq-FREE-clause-within c = omega (arith, long c, c.loop-slot-test.true)

pub returns-then-kind_of-eq-FREE-clause-full : goal.returns-then-kind_of-eq-FREE-clause-full
returns-then-kind_of-eq-FREE-clause-full c =
    (λ impossible. absurd (true≢false impossible), λ full. absurd (omega (arith, found c, long c, c.loop-slot-test.true)))

pub returns-clause-full : goal.returns-clause-full
returns-clause-full c =
    let within = all_used-within c.self.inside.version c.self.inside.blocks c.self.inside.inodes c.self.inside.least c.self.invariant.1 in
    let at_end : c.loop-slot.slot ≡ c.self.inside.inodes = omega (arith, within) in
    let all = new_inode-none c.self.inside.version c.self.inside.blocks c.self.inside.inodes (rw at_end at c.loop-slot.invariant) in
    (λ _. ap new_inode (sym c.self.view_is) ∙ all ∙ ap (λ (f : Files). length f.nodes) c.self.view_is, λ _. refl)
