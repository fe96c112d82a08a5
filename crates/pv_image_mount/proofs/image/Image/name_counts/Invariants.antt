use Rattle.pv_image_mount.proofs.NameCounts.{HasNameCounts}
use Rattle.pv_image_mount.proofs.image.Image.name_counts.Given as goal

-- the slots of the directories so far are counted
abbrev pub invariant-loop-n : goal.invariant-loop-n
invariant-loop-n l = HasNameCounts l.self.version l.self.bytes.now l.counts.items l.n
