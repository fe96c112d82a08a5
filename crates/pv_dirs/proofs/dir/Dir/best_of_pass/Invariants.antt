use Rattle.std.proofs.Common.{◌≡◌, take}
use Rattle.std.specs.Prelude.{IfSome}
use Rattle.std.specs.Option.{option_copied}
use Rattle.pv_model.specs.Machine.{next_name}
use Rattle.pv_dirs.specs.Dirs.{directory_bytes}
use Rattle.pv_dirs.specs.Listing.{IsShared}
use Rattle.pv_dirs.specs.Slots.{StartsAtSlot, slot_entries, in_order}
use Rattle.pv_dirs.proofs.SlotScans.{lesser}
use Rattle.pv_dirs.proofs.dir.Dir.best_of_pass.Given as goal

-- the best name is the next name of the slots so far, or the name that the scan started with; the mark is one of the
-- names between it and the last
abbrev pub invariant-loop-k : goal.invariant-loop-k
invariant-loop-k l = record {
  best : l.best ≡ lesser l.initial.best (next_name (option_copied l.last) (in_order (take l.k (slot_entries l.self.inodes.now.version (directory_bytes l.self)))));
  shared : IfSome l.mark (λ m. IsShared (option_copied l.last) l.best m.at m.byte);
  run : StartsAtSlot l.self.inodes.now.version (directory_bytes l.self) l.k l.left;
}
