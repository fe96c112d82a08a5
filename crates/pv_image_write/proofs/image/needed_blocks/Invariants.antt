use Rattle.std.proofs.Common.{◌≡◌, suc}
use Rattle.pv_image_write.specs.Placed.{placed}
use Rattle.pv_image_write.specs.Encoding.{taken_before}
use Rattle.pv_image_write.proofs.image.needed_blocks.Given as goal

abbrev pub invariant-loop-slot : goal.invariant-loop-slot
invariant-loop-slot l = l.needed ≡ taken_before (placed l.tree.tree l.version 0 l.tree.tree.inodes) (suc l.slot)
