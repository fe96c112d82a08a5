use Rattle.std.specs.Option.{option_copied}
use Rattle.pv_dirs.specs.Dirs.{directory_bytes}
use Rattle.pv_dirs.specs.Listing.{IsNextOf}
use Rattle.pv_dirs.specs.Slots.{StartsAtSlot, IsInSlots}
use Rattle.pv_dirs.proofs.dir.Dir.next_with.Given as goal

-- the best name is the next of the names in the slots so far that have the number
abbrev pub invariant-loop-k : goal.invariant-loop-k
invariant-loop-k l = record {
  best : IsNextOf (IsInSlots l.self.inodes.now.version (directory_bytes l.self) l.k l.node) (option_copied l.last) l.best;
  run : StartsAtSlot l.self.inodes.now.version (directory_bytes l.self) l.k l.left;
}
