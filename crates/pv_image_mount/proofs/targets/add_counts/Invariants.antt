use Rattle.std.proofs.Common.{take}
use Rattle.pv_image_mount.proofs.NameCounts.{AreCounted}
use Rattle.pv_image_mount.proofs.targets.add_counts.Given as goal

abbrev pub invariant-loop-k : goal.invariant-loop-k
invariant-loop-k l = AreCounted l.initial.counts (take l.k-index l.numbers) l.counts
