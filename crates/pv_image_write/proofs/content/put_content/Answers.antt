use Rattle.std.proofs.Common.{le_refl, sym, ◌∙◌, arith}
use Rattle.pv_image_write.proofs.PlacedTrees.{slots-length}
use Rattle.pv_image_write.proofs.content.put_content.Goals as goal

pub put_slots-requires-clause-room : goal.put_slots-requires-clause-room
put_slots-requires-clause-room c =
    let h = c.args.tree.now in
    let long = slots-length h c.invariant.ensures c.args.version 0 h.tree.inodes (le_refl h.tree.inodes) c.requires.names c.args.node (sym c.is_directory.ensures ∙ c.if-is_directory.true) in
    omega (arith, long, c.requires.room)
