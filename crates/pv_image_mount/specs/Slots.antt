-- The slots of directories.
use Rattle.std.specs.Prelude.{ℕ, ◌-◌, ◌+◌, ◌*◌, ◌%◌, ◌^◌, ◌≤◌, ◌<◌, [], ◌∷◌, Bool, ◌||◌, IsTrue, List, map, take, drop, bytes_eq}
use Rattle.std.specs.Cmp.Lexicographic.{slice_cmp}
use Rattle.std.specs.List.{list_any}
use Rattle.std.specs.Ordering.{nat_cmp, is_lt}
use Rattle.pv_model.specs.declared.version.Version.{Version}
use Rattle.pv_model.specs.Machine.{Bytes, is_bad_slot, slot_name, appears_twice, entry_length}
use Rattle.pv_image_mount.specs.declared.slots.TheConstants.{FACTOR}

-- slot i of a directory's contents
abbrev pub slot_of_content : Version → Bytes → ℕ → Bytes
slot_of_content v content i = take (entry_length v) (drop (entry_length v * i) content)

-- a hash extended by bytes: each byte has FACTOR times the weight of the next
unfoldable pub key_after : ℕ → Bytes → ℕ
key_after key [] = key
key_after key (byte ∷ bytes) = key_after ((key * FACTOR + byte) % 2 ^ 64) bytes

abbrev pub name_key : Bytes → ℕ
name_key name = key_after 0 name

abbrev pub slot_key : Bytes → ℕ
slot_key slot = name_key (slot_name slot)

-- the names in the first `count` slots ascend: each follows the one before it
abbrev pub NamesAscend : Version → ℕ → Bytes → Type 0
NamesAscend v count content = (k : ℕ) → k < count → 1 ≤ k → IsTrue (is_lt (slice_cmp nat_cmp (slot_name (slot_of_content v content (k - 1))) (slot_name (slot_of_content v content k))))

-- whether one of some slots is invalid, or two have the same name
unfoldable pub are_bad_slots : Version → Bytes → List Bytes → Bool
are_bad_slots v bytes slots = list_any (is_bad_slot v bytes) slots || appears_twice bytes_eq (map slot_name slots)
