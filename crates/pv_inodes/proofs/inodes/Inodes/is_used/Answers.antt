use Rattle.std.proofs.Common.{◌≡◌, ◌-◌, suc, eqb, not, sym, ap, subst, ◌∙◌, arith}
use Rattle.std.proofs.lemmas.Bool.{not-true, eqb-false, ne_eqb, false≢true}
use Rattle.pv_inodes.specs.Files.{Files, IsUsed}
use Rattle.pv_inodes.proofs.ChangedInode.{used_slot}
use Rattle.pv_inodes.proofs.InodeCreation.{home_within}
use Rattle.pv_inodes.proofs.ReadResults.{used_from}
use Rattle.pv_inodes.proofs.inodes.Inodes.is_used.Goals as goal
use Rattle.pv_inodes.proofs.inodes.Inodes.is_used.Goals.{then-inode-eq0-via-then-inode-eq0, then-inode-eq0-via-else-inode-eq0+then-inode-self}

pub kind_of-requires : goal.kind_of-requires
kind_of-requires c = home_within c.self.inside.version _ _ _ c.self.invariant.0 (omega arith)

pub returns-then-inode-eq0 : goal.returns-then-inode-eq0
returns-then-inode-eq0 c = (
  λ impossible. absurd (false≢true impossible),
  λ used.
      let slot = used_slot c.self.inside.version c.self.inside.blocks c.self.inside.inodes c.args.inode (subst (λ (f : Files). IsUsed f c.args.inode) (sym c.self.view_is) used) in
      absurd (elim c.then-inode-eq0.branch [
        | then-inode-eq0-via-then-inode-eq0 w ↦ omega (arith, w.if-inode-eq0.true, slot.above)
        | then-inode-eq0-via-else-inode-eq0+then-inode-self w ↦ omega (arith, w.if-inode-self.true, slot.above, slot.below)
      ]),
)

pub returns : goal.returns
returns c =
    let next : suc (c.args.inode - 1) ≡ c.args.inode = omega arith in (
      λ test.
          let some = eqb-false c.kind_of.result 0 (not-true (eqb c.kind_of.result 0) test) in
          let used = used_from c.self.inside.version c.self.inside.blocks c.self.inside.inodes (c.args.inode - 1) (omega arith) (λ none. some (c.kind_of.ensures ∙ none)) in
          subst (λ (f : Files). IsUsed f c.args.inode) c.self.view_is (rw next at used),
      λ used.
          let slot = used_slot c.self.inside.version c.self.inside.blocks c.self.inside.inodes c.args.inode (subst (λ (f : Files). IsUsed f c.args.inode) (sym c.self.view_is) used) in
          ap not (ne_eqb c.kind_of.result 0 (λ none. omega (arith, slot.used, c.kind_of.ensures, none))),
    )
