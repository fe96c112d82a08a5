use Rattle.std.proofs.Common.{◌≡◌, ◌≤◌, length}
use Rattle.slab.specs.Slab.{slab_len}
use Rattle.pv_files.proofs.RecordKeys.{AreFree}
use Rattle.pv_files.proofs.open_files.OpenFiles.new.Given as goal

-- the free records so far, and capacity for the others
abbrev pub invariant-loop-number : goal.invariant-loop-number
invariant-loop-number l =
    AreFree l.records l.keys l.number × (length l.keys ≡ 128) × (slab_len l.records ≡ l.number) × (128 ≤ l.records.capacity)
