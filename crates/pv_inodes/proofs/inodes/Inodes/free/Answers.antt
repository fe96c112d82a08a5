use Rattle.std.proofs.Common.{arith}
use Rattle.pv_inodes.proofs.UsedInodes.{free_left}
use Rattle.pv_inodes.proofs.inodes.Inodes.free.Goals as goal

pub returns : goal.returns
returns c = omega (arith, free_left c.self.inside.version c.self.inside.blocks c.self.inside.inodes c.args.self.now c.self.invariant.0 c.self.view_is, c.free.ensures)
