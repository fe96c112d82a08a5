use Rattle.std.proofs.Common.{◌∙◌, arith}
use Rattle.pv_inodes.proofs.UsedInodes.{InUse, in_use}
use Rattle.pv_inodes.proofs.inodes.Inodes.size.Goals as goal
use Rattle.pv_inodes.proofs.inodes.Inodes.size.Goals.{After-self}

known : (c : After-self) → InUse c.self.inside.version c.self.inside.blocks c.self.inside.inodes c.args.self.now c.args.inode c.slot-slot.result
known c = in_use c.self.inside.version _ _ _ _ _ c.self.invariant.0 c.self.view_is c.requires c.slot-slot.ensures

pub size_of-requires : goal.size_of-requires
size_of-requires c = (known (goal.at.size_of-requires c).After-self).home_within

pub returns-clause-value : goal.returns-clause-value
returns-clause-value c = c.size_of.ensures ∙ (known (goal.at.returns-clause-value c).After-self).size

pub returns-clause-allowed : goal.returns-clause-allowed
returns-clause-allowed c = let k = known (goal.at.returns-clause-allowed c).After-self in rw k.same_version (omega (arith, c.size_of.ensures, k.allowed))
