use Rattle.std.proofs.Common.{drop}
use Rattle.pv_blocks.specs.BlockSet.{is_member}
use Rattle.pv_model.specs.Machine.{is_data_block}
use Rattle.pv_image_mount.specs.Rows.{pointer_row}
use Rattle.pv_image_mount.proofs.InvalidBlocks.{IsLeft}
use Rattle.pv_image_mount.proofs.image.Image.claim_row.Given as goal

-- the pointers from here on remain
abbrev pub invariant-loop-i : goal.invariant-loop-i
invariant-loop-i l =
    let row = pointer_row l.count l.bytes in
    IsLeft (is_data_block l.self.version l.self.bytes.now) (is_member l.initial.used) row (is_member l.used) (drop l.i row)
