use Rattle.std.proofs.Common.{nat_le, sym, ap, ◌∙◌}
use Rattle.pv_image.proofs.EnlargedTrees.{room-is}
use Rattle.pv_image.proofs.room.has_room.Goals as goal
use Rattle.pv_image.proofs.room.has_room.Goals.{then-are_image_sizes, else-are_image_sizes}

pub returns-then-sizes-inodes : goal.returns-then-sizes-inodes
returns-then-sizes-inodes c =
    elim c.if-are_image_sizes.branch [
      | then-are_image_sizes w ↦
          room-is c.args.tree.now.tree c.requires c.args.blocks c.args.inodes c.needed_blocks.result c.inode_blocks.result (sym c.are_image_sizes.ensures ∙ w.if-are_image_sizes.true)
          (ap (λ n. nat_le n c.args.inodes) (sym w.sizes.ensures.inodes) ∙ sym w.value-is ∙ c.if-sizes-inodes.true) c.needed_blocks.ensures c.inode_blocks.ensures
      | else-are_image_sizes w ↦ let no = sym c.if-sizes-inodes.true ∙ w.value-is ∙ w.if-are_image_sizes.false in cc
    ]
