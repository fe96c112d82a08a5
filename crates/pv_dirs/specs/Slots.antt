-- Slots: the encoding of a directory's entries.
use Rattle.std.specs.Prelude.{◌≡◌, ℕ, ◌*◌, ◌/◌, ◌%◌, ◌<◌, IsTrue, map, length, take, drop, slice_index, [], ◌∷◌, if◌then◌else◌, nat_lt, Option, None, Some}
use Rattle.std.specs.Cmp.Lexicographic.{slice_cmp}
use Rattle.std.specs.FinMap.Entries.{find, put}
use Rattle.std.specs.List.{range_with_len}
use Rattle.std.specs.Ordering.{nat_cmp}
use Rattle.byteorder.specs.Endian.{little_number}
use Rattle.pv_model.specs.declared.version.Version.{Version}
use Rattle.pv_model.specs.Machine.{Bytes, entry_length, Entries, is_name}

-- slot k
unfoldable pub slot_at : Version → Bytes → ℕ → Bytes
slot_at v bytes k = take (entry_length v) (drop (entry_length v * k) bytes)

-- the bytes are contiguous bytes that start with slot k
abbrev pub StartsAtSlot : Version → Bytes → ℕ → Bytes → Type 0
StartsAtSlot v bytes k run = run ≡ take (length run) (drop (entry_length v * k) bytes)

-- the number of slots
abbrev pub slot_count : Version → Bytes → ℕ
slot_count v bytes = length bytes / entry_length v

-- the inode number in a slot
unfoldable pub inode_in_slot : Bytes → ℕ
inode_in_slot slot = little_number 2 slot

-- the name in a slot; its length is in byte 2
unfoldable pub name_in_slot : Bytes → Bytes
name_in_slot slot = take (slice_index slot 2) (drop 4 slot)

-- the name in slot k, if there is such a slot
abbrev pub name_at : Version → Bytes → ℕ → Option Bytes
name_at v bytes k = if nat_lt k (slot_count v bytes) then Some (name_in_slot (slot_at v bytes k)) else None

-- the entry in slot k
abbrev pub slot_entry : Version → Bytes → ℕ → Bytes × ℕ
slot_entry v bytes k = (name_in_slot (slot_at v bytes k), inode_in_slot (slot_at v bytes k))

-- one of the first `count` slots has the inode number and the name
abbrev pub IsInSlots : Version → Bytes → ℕ → ℕ → Bytes → Type 0
IsInSlots v bytes count n name = (k : ℕ) × (k < count) × (inode_in_slot (slot_at v bytes k) ≡ n) × (name_in_slot (slot_at v bytes k) ≡ name)

-- the entries in the order of their slots
unfoldable pub slot_entries : Version → Bytes → Entries
slot_entries v bytes = map (slot_entry v bytes) (range_with_len 0 (slot_count v bytes))

-- entries sorted by name
unfoldable pub in_order : Entries → Entries
in_order [] = []
in_order (e ∷ es) = put (slice_cmp nat_cmp) e.0 e.1 (in_order es)

-- no two entries have the same name
unfoldable pub IsDistinct : Entries → Type 0
IsDistinct [] = Unit {0}
IsDistinct (e ∷ es) = (find (slice_cmp nat_cmp) e.0 es ≡ None) × IsDistinct es

-- the bytes are those of a directory: complete slots, each with a valid name, and no name twice
pub record IsSlotted (v : Version) (bytes : Bytes) : Type 0 where
  pub whole : length bytes % entry_length v ≡ 0
  pub named : (k : ℕ) → k < slot_count v bytes → IsTrue (is_name v (name_in_slot (slot_at v bytes k)))
  pub measured : (k : ℕ) → k < slot_count v bytes → slice_index (slot_at v bytes k) 2 ≡ length (name_in_slot (slot_at v bytes k))
  pub distinct : IsDistinct (slot_entries v bytes)
