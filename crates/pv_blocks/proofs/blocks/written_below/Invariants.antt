use Rattle.std.proofs.Common.{◌≡◌, ◌≤◌, ◌<◌, ℕ, replicate}
use Rattle.pv_model.specs.Machine.{block}
use Rattle.pv_blocks.proofs.blocks.written_below.Given as goal

-- the blocks passed so far are zero
abbrev pub invariant-loop-end : goal.invariant-loop-end
invariant-loop-end l = record {
  within : l.end ≤ l.first;
  zero : (k : ℕ) → l.end ≤ k → k < l.first → block l.bytes k ≡ replicate 512 0;
}

abbrev pub decreases-loop-end : goal.decreases-loop-end
decreases-loop-end l = l.end
