use Rattle.std.proofs.Common.{◌≡◌, ◌+◌, ◌*◌, ◌≤◌, vec_capacity, vec_len}
use Rattle.pv_model.specs.Machine.{entry_length, entries_at}
use Rattle.pv_image_write.proofs.EntryLists.{IsListing}
use Rattle.pv_image_write.proofs.content.put_slots.Given as goal

abbrev pub invariant-loop-entry : goal.invariant-loop-entry
invariant-loop-entry l = record {
  listing : IsListing l.version (entries_at l.tree.tree l.directory) l.entry l.fn.bytes.items l.bytes.items l.last;
  len : vec_len l.bytes ≡ vec_len l.fn.bytes + entry_length l.version * l.entry;
  room : vec_capacity l.fn.bytes ≤ vec_capacity l.bytes;
}
