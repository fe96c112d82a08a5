use Rattle.pv_dirs.specs.Dirs.{directory_bytes, IsNameBefore}
use Rattle.pv_dirs.specs.Index.{AreLedUpTo, LeadsAsBefore}
use Rattle.pv_dirs.specs.Slots.{StartsAtSlot}
use Rattle.pv_dirs.proofs.indexing.add_slots.Given as goal

-- the index leads to the entries in the slots so far, and to those of other directories as before
abbrev pub invariant-loop-k : goal.invariant-loop-k
invariant-loop-k l = record {
  run : StartsAtSlot l.dir.inodes.now.version (directory_bytes l.dir) l.k l.left;
  before : IsNameBefore l.dir l.k l.last;
  led : AreLedUpTo l.index l.dir.inodes.now.version l.dir.directory (directory_bytes l.dir) l.k;
  leads : LeadsAsBefore l.dir.directory l.fn.index l.index;
}
