use Rattle.std.proofs.Common.{◌≡◌, ◌<◌, take}
use Rattle.std.specs.Prelude.{IfSome}
use Rattle.std.specs.Option.{option_copied}
use Rattle.pv_model.specs.Machine.{next_name}
use Rattle.pv_dirs.specs.Dirs.{directory_bytes}
use Rattle.pv_dirs.specs.Slots.{StartsAtSlot, name_in_slot, slot_at, slot_entries, in_order}
use Rattle.pv_dirs.proofs.dir.Dir.lent_after.Given as goal

-- the best name is the next name of the slots so far, and is in its slot
abbrev pub invariant-loop-k : goal.invariant-loop-k
invariant-loop-k l = record {
  best : option_copied l.best ≡ next_name (option_copied l.last) (in_order (take l.k (slot_entries l.self.inodes.now.version (directory_bytes l.self))));
  place : IfSome l.best (λ name. (l.slot < l.k) × (name_in_slot (slot_at l.self.inodes.now.version (directory_bytes l.self) l.slot) ≡ name.now));
  run : StartsAtSlot l.self.inodes.now.version (directory_bytes l.self) l.k l.left;
}
