use Rattle.std.proofs.Common.{◌≡◌, ◌+◌, Option}
use Rattle.std.specs.Prelude.{nat_le}
use Rattle.std.proofs.lemmas.Bool.{and_parts, leb-true}
use Rattle.std.proofs.lemmas.Result.{on_ok_weaker}
use Rattle.pv_model.specs.Machine.{Bytes, inode_blocks, greatest_blocks, Tree}
use Rattle.pv_streams.specs.Sinks.{and_all, WritesPrefix}
use Rattle.pv_image_write.specs.Placed.{placed}
use Rattle.pv_image_write.specs.Encoding.{image_bytes}
use Rattle.pv_image_write.specs.Written.{BeginsImage, WritesImage}
use Rattle.pv_image_write.specs.Writable.{IsWritable}
use Rattle.pv_image_write.proofs.WrittenImage.{is-written_image}
use Rattle.pv_image_write.proofs.PlacedTrees.{placed-writable}
use Rattle.pv_image_write.proofs.image.write_as.Goals as goal

reports : (u : Tree) → IsWritable u → (before after : Option Bytes) → after ≡ and_all before (image_bytes u) → WritesImage u before after
reports u w before after written = record { image = image_bytes u; holds = is-written_image u w; written = written }

begins : (u : Tree) → IsWritable u → (before after : Option Bytes) → WritesPrefix (image_bytes u) before after → BeginsImage u before after
begins u w before after written = record { image = image_bytes u; holds = is-written_image u w; written = written }

pub write_bytes-requires : goal.write_bytes-requires
write_bytes-requires g c =
    let first = and_parts _ (nat_le c.args.blocks (greatest_blocks c.args.version)) c.requires.sizes in
    let second = and_parts _ (nat_le (inode_blocks c.args.version c.args.inodes + 1) c.args.blocks) first.0 in
    record {
      sizes = leb-true (inode_blocks c.args.version c.args.inodes + 1) c.args.blocks second.1;
      names = c.requires.names;
      inodes = c.requires.inodes;
      writable = placed-writable c.args.tree.now c.invariant.ensures c.args.version c.args.blocks c.args.inodes c.requires.inodes c.requires.names c.requires.sizes c.requires.room;
    }

pub returns : goal.returns
returns g c =
    let u = placed c.args.tree.now.tree c.args.version c.args.blocks c.args.inodes in
    let w = placed-writable c.args.tree.now c.invariant.ensures c.args.version c.args.blocks c.args.inodes c.requires.inodes c.requires.names c.requires.sizes c.requires.room in
    let before = g.O.Sink.written c.args.image.now in
    let after = g.O.Sink.written c.write_bytes.new.image in
    record {
      whole = on_ok_weaker c.write_bytes.result (reports u w before after) c.write_bytes.ensures.whole;
      cut = λ failed. begins u w before after (c.write_bytes.ensures.cut failed);
      failed = c.write_bytes.ensures.failed;
      memory = c.write_bytes.ensures.memory;
      flushed = c.write_bytes.ensures.flushed;
    }
