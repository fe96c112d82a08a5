use Rattle.std.proofs.Common.{◌≡◌, ℕ, ltb}
use Rattle.pv_blocks.specs.BlockSet.{is_member}
use Rattle.pv_blocks.proofs.BlockStores.{TakesUpTo}
use Rattle.pv_blocks.proofs.blocks.Blocks.of_bytes.Given as goal

-- the blocks below the first are in the set so far
abbrev pub invariant-loop-k : goal.invariant-loop-k
invariant-loop-k l = (j : ℕ) → is_member l.taken j ≡ ltb j l.k

-- all of these are, and the members of `used` so far; the other blocks so far are counted
abbrev pub invariant-loop-k-2 : goal.invariant-loop-k-2
invariant-loop-k-2 l = TakesUpTo l.taken l.used l.first l.k l.free
