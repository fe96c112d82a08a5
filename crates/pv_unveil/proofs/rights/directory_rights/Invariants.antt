use Rattle.std.proofs.Common.{suc}
use Rattle.pv_unveil.proofs.ClimbSteps.{IsClimbed, height}
use Rattle.pv_unveil.proofs.rights.directory_rights.Given as goal

abbrev pub invariant-loop-at : goal.invariant-loop-at
invariant-loop-at l = IsClimbed l.tree.tree l.entries l.directory l.at

-- the number of steps that remain
abbrev pub decreases-loop-at : goal.decreases-loop-at
decreases-loop-at l = height l.tree.tree (suc l.tree.tree.inodes) l.at
