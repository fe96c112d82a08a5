use Rattle.std.proofs.Common.{◌≡◌, ◌<◌, ℕ, option_map, slice_index}
use Rattle.pv_files.specs.Slots.{file_of, record_at}
use Rattle.pv_files.proofs.open_files.OpenFiles.is_same.Given as goal

-- the open files of the numbers so far are the same
abbrev pub invariant-loop-number : goal.invariant-loop-number
invariant-loop-number l =
    (k : ℕ) → k < l.number
    → option_map file_of (record_at l.self-inside.records (slice_index l.self-inside.keys k)) ≡ option_map file_of (record_at l.other-inside.records (slice_index l.other-inside.keys k))
