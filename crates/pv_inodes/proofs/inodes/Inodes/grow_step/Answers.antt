use Rattle.std.proofs.Common.{◌/◌, length, sym, ap, ◌∙◌, arith}
use Rattle.pv_inodes.specs.Files.{inode_bytes_at}
use Rattle.pv_inodes.specs.Layout.{position_of_block, wanted}
use Rattle.pv_inodes.proofs.InodeLayouts.{position_of_block-next}
use Rattle.pv_inodes.proofs.inodes.Inodes.grow_step.Goals as goal

pub grow_by_index-requires-clause-next : goal.grow_by_index-requires-clause-next
grow_by_index-requires-clause-next c =
    let size = c.size-old.ensures.value in
    let place = c.place.ensures ∙ ap (λ n. position_of_block (n / 512)) size in
    let room = c.room.ensures ∙ ap wanted size in
    position_of_block-next (length (inode_bytes_at c.args.self.now c.args.inode)) (omega arith) (λ same. c.if-place-room.true (place ∙ same ∙ sym room))
