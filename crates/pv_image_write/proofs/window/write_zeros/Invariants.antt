use Rattle.std.proofs.Common.{◌≡◌, ◌*◌, ◌≤◌, ◌++◌, replicate, vec_capacity}
use Rattle.pv_image_write.specs.Written.{IsPartlyWritten}
use Rattle.pv_image_write.proofs.window.write_zeros.Given as goal

abbrev pub invariant-loop-block : goal.invariant-loop-block
invariant-loop-block g l = record {
  put : IsPartlyWritten (g.O.Sink.written l.initial.image) (g.O.Sink.written l.image) l.window.items (l.fn.window.items ++ replicate (512 * l._block) 0);
  room : vec_capacity l.fn.window ≤ vec_capacity l.window;
  quiet : g.O.Sink.failures l.image ≡ g.O.Sink.failures l.initial.image;
}
