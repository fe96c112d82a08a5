use Rattle.std.proofs.Common.{◌*◌, ◌-◌, drop}
use Rattle.pv_blocks.specs.BlockSet.{is_member}
use Rattle.pv_model.specs.Machine.{is_data_block, rounded_up}
use Rattle.pv_image_mount.specs.Rows.{pointed_row, pointer_row}
use Rattle.pv_image_mount.proofs.InvalidBlocks.{IsLeft}
use Rattle.pv_image_mount.proofs.image.Image.claim_pointed.Given as goal

-- the pointers in the index blocks from here on remain
abbrev pub invariant-loop-i : goal.invariant-loop-i
invariant-loop-i l =
    let bytes = l.self.bytes.now in
    let index = pointer_row (rounded_up l.count 256) l.index in
    IsLeft (is_data_block l.self.version bytes) (is_member l.initial.used) (pointed_row l.count bytes index)
    (is_member l.used) (pointed_row (l.count - 256 * l.i) bytes (drop l.i index))
