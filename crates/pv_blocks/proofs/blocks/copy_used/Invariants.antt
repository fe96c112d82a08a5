use Rattle.std.proofs.Common.{◌≡◌, ◌≤◌, ◌-◌, ℕ, length}
use Rattle.pv_blocks.specs.BlockStore.{block_of}
use Rattle.pv_blocks.proofs.BlockCopies.{past_or_old}
use Rattle.pv_blocks.proofs.blocks.copy_used.Given as goal

abbrev pub invariant-loop-k : goal.invariant-loop-k
invariant-loop-k l = record {
  from : l.start ≤ l.k;
  free : l.to.free ≡ l.fn.to.free;
  first : l.to.first ≡ l.fn.to.first;
  long : length l.to.blocks ≡ length l.fn.to.blocks;
  each : (j : ℕ) → block_of l.to j ≡ past_or_old l.from l.fn.to l.start l.k j;
}

abbrev pub decreases-loop-k : goal.decreases-loop-k
decreases-loop-k l = length l.from.blocks - l.k
