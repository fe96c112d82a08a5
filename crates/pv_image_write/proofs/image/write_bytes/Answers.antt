use Rattle.std.proofs.Common.{◌≡◌, subst}
use Rattle.pv_model.specs.Machine.{Bytes, inode_blocks}
use Rattle.pv_streams.specs.Sinks.{and_all, WritesPrefix}
use Rattle.pv_image_write.specs.Placed.{placed}
use Rattle.pv_image_write.proofs.ImageWrites.{image-as_written, length-with_table, whole-image}
use Rattle.pv_image_write.proofs.image.write_bytes.Goals as goal

pub write_contents-requires-clause-following : goal.write_contents-requires-clause-following
unfolding placed
write_contents-requires-clause-following g c =
    length-with_table (placed c.args.tree.now.tree c.args.version c.args.blocks c.args.inodes) c.requires.writable c.args.blocks c.in_ok-window.window.items c.in_ok-window.ensures.items

pub returns-clause-whole : goal.returns-clause-whole
unfolding placed
returns-clause-whole g c =
    let u = placed c.args.tree.now.tree c.args.version c.args.blocks c.args.inodes in
    let whole = whole-image c.args.blocks (inode_blocks c.args.version c.args.inodes) c.requires.sizes in
    let is = image-as_written u c.requires.writable c.args.blocks c.in_ok-window.window.items whole c.in_ok-window.ensures.items in
    subst (λ (xs : Bytes). g.O.Sink.written c.write_contents.new.image ≡ and_all (g.O.Sink.written c.args.image.now) xs) is c.in_ok-write_contents.ensures.written.whole

pub returns-in_err-write_contents-clause-cut : goal.returns-in_err-write_contents-clause-cut
unfolding placed
returns-in_err-write_contents-clause-cut g c failed =
    let u = placed c.args.tree.now.tree c.args.version c.args.blocks c.args.inodes in
    let whole = whole-image c.args.blocks (inode_blocks c.args.version c.args.inodes) c.requires.sizes in
    let is = image-as_written u c.requires.writable c.args.blocks c.in_ok-window.window.items whole c.in_ok-window.ensures.items in
    subst (λ (xs : Bytes). WritesPrefix xs (g.O.Sink.written c.args.image.now) (g.O.Sink.written c.write_contents.new.image)) is c.in_err-write_contents.ensures.written.prefix
