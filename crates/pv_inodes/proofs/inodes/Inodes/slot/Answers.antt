use Rattle.std.proofs.Common.{◌≤◌, sym, subst, arith}
use Rattle.pv_inodes.specs.Files.{Files, IsUsed}
use Rattle.pv_inodes.proofs.ChangedInode.{used_slot}
use Rattle.pv_inodes.proofs.inodes.Inodes.slot.Goals as goal

pub overflow_sub-result : goal.overflow_sub-result
overflow_sub-result c =
    (used_slot c.self.inside.version c.self.inside.blocks c.self.inside.inodes c.args.inode (subst (λ (f : Files). IsUsed f c.args.inode) (sym c.self.view_is) c.requires)).above

pub returns : goal.returns
returns c =
    let above : 1 ≤ c.args.inode = overflow_sub-result c in
    omega arith
