-- The slots of a directory and the image format's definition of its entries.
use Rattle.std.specs.Prelude.{◌≡◌, ◌%◌, length}
use Rattle.pv_model.specs.declared.version.Version.{Version}
use Rattle.pv_model.specs.Machine.{Bytes, AreSlots, entry_length, Entries}
use Rattle.pv_dirs.specs.Slots.{slot_entries, IsSlotted}

-- the entries in the slots of a directory are those that its bytes encode
abbrev pub EntriesAreEncoded : Type 0
EntriesAreEncoded = (v : Version) (bytes : Bytes) → IsSlotted v bytes → AreSlots v bytes (slot_entries v bytes)

-- conversely, bytes that encode entries consist of exactly their slots
abbrev pub EncodedAreEntries : Type 0
EncodedAreEntries = (v : Version) (bytes : Bytes) (es : Entries) → AreSlots v bytes es → (slot_entries v bytes ≡ es) × (length bytes % entry_length v ≡ 0)
