use Rattle.std.proofs.Common.{◌≡◌, ◌+◌, ◌++◌, length, take, ap, sym, ◌∙◌, append_assoc, arith}
use Rattle.std.proofs.Math.Seq.{take-add}
use Rattle.pv_model.specs.Machine.{Bytes}
use Rattle.pv_tree.specs.OfDirs.Trees.{node_bytes_at}
use Rattle.pv_image_write.proofs.content.put_bytes.Goals as goal

pub put-requires : goal.put-requires
put-requires c =
    omega (arith, c.lend-part.ensures.within, c.loop-at.invariant.within, c.loop-at.invariant.len, c.loop-at.invariant.room, c.requires.room)

pub loop-at-preserved : goal.loop-at-preserved
loop-at-preserved c =
    let bytes = node_bytes_at c.args.tree.now.tree c.args.node in
    let at = c.loop-at.at in
    let part = c.lend-part.result.now in
    let more : take (at + length part) bytes ≡ take at bytes ++ part = take-add at (length part) bytes ∙ ap (λ (t : Bytes). take at bytes ++ t) (sym c.lend-part.ensures.run) in
    record {
      within = omega (arith, c.lend-part.ensures.within);
      text = c.put.ensures.items ∙ ap (λ (t : Bytes). t ++ part) c.loop-at.invariant.text ∙ append_assoc c.args.bytes.now.items (take at bytes) part
          ∙ ap (λ (t : Bytes). c.args.bytes.now.items ++ t) (sym more);
      len = omega (arith, c.put.ensures.len, c.loop-at.invariant.len);
      room = omega (arith, c.put.ensures.capacity, c.loop-at.invariant.room);
    }
