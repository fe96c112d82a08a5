use Rattle.std.proofs.Common.{◌≡◌, ◌≤◌, ◌<◌, ℕ}
use Rattle.pv_inodes.specs.Layout.{kind_at}
use Rattle.pv_inodes.proofs.table.end_of_used.Given as goal

-- the inodes passed so far are free
abbrev pub invariant-loop-end : goal.invariant-loop-end
invariant-loop-end l = record {
  within : l.end ≤ l.inodes;
  free : (s : ℕ) → l.end ≤ s → s < l.inodes → kind_at l.version l.blocks.blocks s ≡ 0;
}

abbrev pub decreases-loop-end : goal.decreases-loop-end
decreases-loop-end l = l.end
