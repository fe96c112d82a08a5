use Rattle.std.proofs.Common.{◌+◌, ◌-◌}
use Rattle.pv_model.specs.Machine.{inode_number}
use Rattle.pv_image_mount.proofs.ReachableInodes.{IsVisited}
use Rattle.pv_image_mount.proofs.image.Image.reached.Given as goal

abbrev pub invariant-loop-at : goal.invariant-loop-at
invariant-loop-at l = IsVisited l.self.version l.self.bytes.now l.seen l.order.items l.at

abbrev pub decreases-loop-at : goal.decreases-loop-at
decreases-loop-at l = inode_number l.self.bytes.now + 1 - l.at
