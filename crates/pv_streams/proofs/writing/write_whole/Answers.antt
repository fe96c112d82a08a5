use Rattle.std.proofs.Common.{◌∙◌, arith}
use Rattle.pv_streams.proofs.SinkWrites.{written_more}
use Rattle.pv_streams.proofs.writing.write_whole.Goals as goal

pub loop-at-preserved : goal.loop-at-preserved
loop-at-preserved g c = record {
  within = omega (arith, c.in_ok-at.ensures.bound);
  written = written_more c.args.bytes.now c.loop-at.at c.in_ok-at.field-0 _ _ _ c.loop-at.invariant.written c.in_ok-at.ensures.written;
  quiet = c.in_ok-at.ensures.quiet ∙ c.loop-at.invariant.quiet;
}
