use Rattle.std.proofs.Common.{[]}
use Rattle.pv_model.specs.Machine.{block}
use Rattle.pv_image_mount.proofs.PointerRows.{joined_more}
use Rattle.pv_image_mount.proofs.image.Image.gather.Goals as goal

pub loop-k-preserved : goal.loop-k-preserved
loop-k-preserved c =
    joined_more [] (block c.args.self.now.bytes.now) c.args.blocks.now c.loop-k.k-index c.loop-k-test.true c.loop-k.bytes.items c.extend_from_slice.new.self.items c.block.result.now
    c.loop-k.invariant c.in_ok-extend_from_slice.ensures.items c.block.ensures.bytes
