use Rattle.std.proofs.Common.{◌≡◌, ◌++◌}
use Rattle.pv_image_mount.specs.Rows.{pointer_row}
use Rattle.pv_image_mount.proofs.used_blocks.add_pointers.Given as goal

abbrev pub invariant-loop-i : goal.invariant-loop-i
invariant-loop-i l = l.list.items ≡ l.initial.list.items ++ pointer_row l.i l.bytes
