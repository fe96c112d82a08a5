use Rattle.std.proofs.Common.{◌≡◌, ◌≢◌, ℕ, ◌-◌, ◌<◌, ◌≤◌}
use Rattle.std.specs.declared.cmp.Ordering.TheVariants.{Less}
use Rattle.pv_dirs.specs.Dirs.{directory_bytes}
use Rattle.pv_dirs.specs.Slots.{slot_at, slot_count, name_in_slot}
use Rattle.pv_dirs.proofs.SortedEntries.{by_name}
use Rattle.pv_dirs.proofs.dir.Dir.count_before.Given as goal

-- the names before `from` precede the name, and those from `to` on do not
abbrev pub invariant-loop-from : goal.invariant-loop-from
invariant-loop-from l = record {
  ordered : l.from ≤ l.to;
  within : l.to ≤ slot_count l.self.inodes.now.version (directory_bytes l.self);
  few : l.to ≤ 2540;
  before : (k : ℕ) → k < l.from → by_name (name_in_slot (slot_at l.self.inodes.now.version (directory_bytes l.self) k)) l.name ≡ Less;
  past : (k : ℕ) → l.to ≤ k → k < slot_count l.self.inodes.now.version (directory_bytes l.self) → by_name (name_in_slot (slot_at l.self.inodes.now.version (directory_bytes l.self) k)) l.name ≢ Less;
}

abbrev pub decreases-loop-from : goal.decreases-loop-from
decreases-loop-from l = l.to - l.from
