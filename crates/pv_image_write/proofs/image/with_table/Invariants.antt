use Rattle.std.proofs.Common.{◌*◌, ◌≤◌, vec_capacity}
use Rattle.pv_image_write.specs.Placed.{placed}
use Rattle.pv_image_write.specs.Encoding.{all_inodes, first_block}
use Rattle.pv_image_write.specs.Writable.{AreWritten}
use Rattle.pv_image_write.proofs.image.with_table.Given as goal

abbrev pub invariant-loop-slot : goal.invariant-loop-slot
invariant-loop-slot l = record {
  as_written : AreWritten all_inodes (placed l.tree.tree l.version l.fn.blocks l.inodes) l.slot (first_block l.version l.fn.blocks l.inodes) l.bytes.items l.first;
  room : 512 * l.fn.blocks ≤ vec_capacity l.bytes;
}
