use Rattle.std.proofs.Common.{◌≡◌, ℕ, length}
use Rattle.pv_blocks.specs.BlockStore.{block_of}
use Rattle.pv_blocks.proofs.BlockCopies.{below_or_old}
use Rattle.pv_blocks.proofs.blocks.copy_below.Given as goal

abbrev pub invariant-loop-k : goal.invariant-loop-k
invariant-loop-k l = record {
  free : l.to.free ≡ l.fn.to.free;
  first : l.to.first ≡ l.fn.to.first;
  long : length l.to.blocks ≡ length l.fn.to.blocks;
  each : (j : ℕ) → block_of l.to j ≡ below_or_old l.from l.fn.to l.k j;
}
