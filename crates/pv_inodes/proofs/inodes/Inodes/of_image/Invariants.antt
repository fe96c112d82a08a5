use Rattle.std.proofs.Common.{◌/◌, vec_len}
use Rattle.pv_inodes.proofs.MountedStore.{IsOver}
use Rattle.pv_inodes.proofs.inodes.Inodes.of_image.Given as goal

-- the blocks of the inodes so far are in use
abbrev pub invariant-loop-slot : goal.invariant-loop-slot
invariant-loop-slot l = IsOver l.version l.fn.bytes.items (vec_len l.fn.bytes / 512) l.inodes l.blocks l.slot 0

-- and the first i of this one
abbrev pub invariant-loop-i : goal.invariant-loop-i
invariant-loop-i l = IsOver l.version l.fn.bytes.items (vec_len l.fn.bytes / 512) l.inodes l.blocks l.slot l.i
