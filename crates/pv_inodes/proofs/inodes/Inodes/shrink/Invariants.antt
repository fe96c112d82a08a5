use Rattle.std.proofs.Common.{◌≡◌, ◌-◌, ◌≤◌}
use Rattle.pv_inodes.specs.Layout.{most_owned}
use Rattle.pv_inodes.proofs.ContentGrowth.{Reduced}
use Rattle.pv_inodes.proofs.inodes.Inodes.shrink.Given as goal

-- all blocks except the remaining ones are freed
abbrev pub invariant-loop-owned : goal.invariant-loop-owned
invariant-loop-owned l = record {
  least : l.preserved ≤ l.owned;
  most : l.owned ≤ most_owned l.initial.self-inside.version;
  inodes : l.self-inside.inodes ≡ l.initial.self-inside.inodes;
  version : l.self-inside.version ≡ l.initial.self-inside.version;
  start : l.self-inside.least ≡ l.initial.self-inside.least;
  end : l.self-inside.most ≡ l.initial.self-inside.most;
  reduced : Reduced l.initial.self-inside.version l.initial.self-inside.blocks l.self-inside.blocks l.initial.self-inside.inodes l.slot l.owned;
}

abbrev pub decreases-loop-owned : goal.decreases-loop-owned
decreases-loop-owned l = l.owned - l.preserved
