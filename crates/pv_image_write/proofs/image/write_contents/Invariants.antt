use Rattle.std.proofs.Common.{◌≡◌, ◌≤◌, vec_capacity}
use Rattle.pv_image_write.specs.Placed.{placed}
use Rattle.pv_image_write.proofs.ImageWrites.{ArePut}
use Rattle.pv_image_write.proofs.image.write_contents.Given as goal

abbrev pub invariant-loop-slot : goal.invariant-loop-slot
invariant-loop-slot g l = record {
  put : ArePut (placed l.tree.tree l.version l.fn.blocks l.inodes) l.slot l.fn.window.items (g.O.Sink.written l.initial.image) (g.O.Sink.written l.image) l.window.items l.next;
  room : vec_capacity l.fn.window ≤ vec_capacity l.window;
  quiet : g.O.Sink.failures l.image ≡ g.O.Sink.failures l.initial.image;
}
