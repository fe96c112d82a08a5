use Rattle.std.proofs.Common.{◌≤◌, ◌-◌}
use Rattle.pv_blocks.specs.BlockSet.{AllMembers}
use Rattle.pv_blocks.proofs.block_set.BlockSet.least_absent.Given as goal

-- all numbers so far are in the set
abbrev pub invariant-loop-k : goal.invariant-loop-k
invariant-loop-k l = (l.from ≤ l.k) × AllMembers l.self l.from l.k

abbrev pub decreases-loop-k : goal.decreases-loop-k
decreases-loop-k l = l.end - l.k
