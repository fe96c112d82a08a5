use Rattle.std.proofs.Common.{◌≡◌, ◌≤◌, ◌<◌, ℕ, None, slice_index, take}
use Rattle.pv_files.specs.Slots.{AreKeys, record_at, slots_under}
use Rattle.pv_files.proofs.open_files.copy_records.Given as goal

-- the records of the numbers so far are copied
abbrev pub invariant-loop-number : goal.invariant-loop-number
invariant-loop-number l = record {
  are_keys : AreKeys l.records l.keys;
  rest : (k : ℕ) → l.most ≤ k → k < 128 → record_at l.records (slice_index l.keys k) ≡ None;
  copied : take l.number (slots_under l.records l.keys) ≡ take l.number (slots_under l.others l.other_keys);
}
