use Rattle.std.proofs.Common.{◌≢◌, ℕ, ◌<◌}
use Rattle.pv_dirs.specs.Dirs.{directory_bytes}
use Rattle.pv_dirs.specs.Slots.{StartsAtSlot, slot_at, name_in_slot}
use Rattle.pv_dirs.proofs.dir.Dir.search.Given as goal

-- no slot so far has the name
abbrev pub invariant-loop-k : goal.invariant-loop-k
invariant-loop-k l = record {
  others : (j : ℕ) → j < l.k → name_in_slot (slot_at l.self.inodes.now.version (directory_bytes l.self) j) ≢ l.name;
  run : StartsAtSlot l.self.inodes.now.version (directory_bytes l.self) l.k l.left;
}
