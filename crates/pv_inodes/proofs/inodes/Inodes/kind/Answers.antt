use Rattle.std.proofs.Common.{Some, ap, sym, ◌∙◌}
use Rattle.pv_inodes.specs.Files.{kind_of_number}
use Rattle.pv_inodes.proofs.UsedInodes.{InUse, in_use, sort_in_use}
use Rattle.pv_inodes.proofs.inodes.Inodes.kind.Goals as goal
use Rattle.pv_inodes.proofs.inodes.Inodes.kind.Goals.{After-self}

known : (c : After-self) → InUse c.self.inside.version c.self.inside.blocks c.self.inside.inodes c.args.self.now c.args.inode c.slot-slot.result
known c = in_use c.self.inside.version _ _ _ _ _ c.self.invariant.0 c.self.view_is c.requires c.slot-slot.ensures

pub kind_of-requires : goal.kind_of-requires
kind_of-requires c = (known (goal.at.kind_of-requires c).After-self).home_within

pub returns : goal.returns
returns c = sort_in_use c.self.inside.version _ _ _ _ _ (known (goal.at.returns c).After-self) ∙ ap Some (ap kind_of_number (sym c.kind_of.ensures) ∙ sym c.sort_from.ensures)
