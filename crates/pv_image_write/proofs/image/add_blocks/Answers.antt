use Rattle.std.proofs.Common.{refl}
use Rattle.pv_model.specs.Machine.{node_at}
use Rattle.pv_image_write.specs.Placed.{written_at}
use Rattle.pv_image_write.proofs.ImageWrites.{blocks-put}
use Rattle.pv_image_write.proofs.image.add_blocks.Goals as goal

pub returns-clause-items : goal.returns-clause-items
returns-clause-items c =
    let t = c.args.tree.now.tree in
    let n = c.args.node in
    blocks-put c.args.version c.args.first c.content_length.result (node_at t n) (written_at t n) c.args.bytes.now.items c.put_content.new.bytes.items c.put_after_content.new.bytes.items
    (c.if-not-is_written.ensures.used refl) (c.if-not-is_written.ensures.as_written refl) c.put_content.ensures.items c.content_length.ensures.value
    c.put_after_content.ensures.items
