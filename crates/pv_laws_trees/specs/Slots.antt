-- The entries in the slots of a directory.
use Rattle.std.specs.Prelude.{◌≡◌, ◌↔◌, ℕ, ◌*◌, length, map}
use Rattle.std.specs.List.{AllByRecursion}
use Rattle.pv_model.specs.declared.version.Version.{Version}
use Rattle.pv_model.specs.Machine.{Bytes, AreSlots, slots_of, slot_number, slot_length, slot_name, entry_length, Entries}

-- the entry in a slot
abbrev pub entry_in_slot : Bytes → Bytes × ℕ
entry_in_slot slot = (slot_name slot, slot_number slot)

-- the name in a slot has the stated length
abbrev pub IsMeasured : Bytes → Type 0
IsMeasured slot = slot_length slot ≡ length (slot_name slot)

-- bytes consist of complete slots whose names have the stated lengths, and the slots contain these entries
pub record AreRead (v : Version) (bytes : Bytes) (es : Entries) : Type 0 where
  pub whole : length bytes ≡ entry_length v * length es
  pub measured : AllByRecursion IsMeasured (slots_of v (length es) bytes)
  pub entries : es ≡ map entry_in_slot (slots_of v (length es) bytes)

abbrev pub SlotsAreRead : Type 0
SlotsAreRead = (v : Version) (bytes : Bytes) (es : Entries) → AreSlots v bytes es ↔ AreRead v bytes es
