use Rattle.std.proofs.Common.{◌≢◌, ℕ, ◌<◌}
use Rattle.pv_inodes.specs.Layout.{kind_at}
use Rattle.pv_inodes.proofs.inodes.Inodes.free_slot.Given as goal

-- each inode so far is in use
abbrev pub invariant-loop-slot : goal.invariant-loop-slot
invariant-loop-slot l = (t : ℕ) → t < l.slot → kind_at l.self-inside.version l.self-inside.blocks.blocks t ≢ 0
