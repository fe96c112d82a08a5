-- A directory as slots.
use Rattle.std.specs.Prelude.{◌≡◌, ℕ, ◌-◌, ◌≤◌, Option, IfSome}
use Rattle.std.specs.Borrow.{Bor}
use Rattle.pv_model.specs.Machine.{Bytes, Entries}
use Rattle.pv_inodes.specs.Files.{inode_bytes_at}
use Rattle.pv_dirs.specs.declared.dir.Dir.{Dir}
use Rattle.pv_dirs.specs.declared.index.Index.{Index}
use Rattle.pv_dirs.specs.Index.{Ascend, AscendTo, AreLed, AreLedUpTo, IsSlotAfter}
use Rattle.pv_dirs.specs.Slots.{StartsAtSlot, IsInSlots, slot_at, slot_count, name_at, name_in_slot, inode_in_slot, slot_entries}

-- the contents of the directory
abbrev pub directory_bytes : Dir → Bytes
directory_bytes d = inode_bytes_at d.inodes.now d.directory

-- the number of its slots
abbrev pub slots_in : Dir → ℕ
slots_in d = slot_count d.inodes.now.version (directory_bytes d)

abbrev pub slot_in : Dir → ℕ → Bytes
slot_in d k = slot_at d.inodes.now.version (directory_bytes d) k

abbrev pub name_in : Dir → ℕ → Bytes
name_in d k = name_in_slot (slot_in d k)

abbrev pub slot_number_in : Dir → ℕ → ℕ
slot_number_in d k = inode_in_slot (slot_in d k)

-- the name in slot k, if there is such a slot
abbrev pub any_name_in : Dir → ℕ → Option Bytes
any_name_in d k = name_at d.inodes.now.version (directory_bytes d) k

-- its entries in the order of the slots
abbrev pub directory_entries : Dir → Entries
directory_entries d = slot_entries d.inodes.now.version (directory_bytes d)

-- some slot has this node and this name
abbrev pub IsNamedIn : Dir → ℕ → Bytes → Type 0
IsNamedIn d n name = IsInSlots d.inodes.now.version (directory_bytes d) (slots_in d) n name

-- the bytes are contiguous bytes of the directory that start with slot k
abbrev pub StartsAtSlotIn : Dir → ℕ → Bytes → Type 0
StartsAtSlotIn d k run = StartsAtSlot d.inodes.now.version (directory_bytes d) k run

-- the names in the first `count` slots ascend in byte order
abbrev pub AscendIn : Dir → ℕ → Type 0
AscendIn d count = Ascend d.inodes.now.version (directory_bytes d) count

-- these names ascend, and `name` follows them
abbrev pub AscendInTo : Dir → ℕ → Bytes → Type 0
AscendInTo d count name = AscendTo d.inodes.now.version (directory_bytes d) count name

-- slot k is the one after that of the last name, or slot 0 if there is no last name
abbrev pub IsPast : Dir → Option Bytes → ℕ → Type 0
IsPast d last k = IsSlotAfter last d.inodes.now.version (directory_bytes d) k

-- the name, if there is one, is that of the slot before slot k
pub record IsNameBefore (d : Dir) (k : ℕ) (name : Option (Bor Bytes)) : Type 0 where
  pub some : IfSome name (λ _. 1 ≤ k)
  pub last : IfSome name (λ before. before.now ≡ name_in d (k - 1))

-- an index leads to each entry in the first `count` slots; if it records that the names ascend, they do
abbrev pub IsLedUpTo : Dir → Index → ℕ → Type 0
IsLedUpTo d ix count = AreLedUpTo ix d.inodes.now.version d.directory (directory_bytes d) count

-- an index leads to each entry of the directory; if it records that the names ascend, they do
abbrev pub IsLedBy : Dir → Index → Type 0
IsLedBy d ix = AreLed ix d.inodes.now.version d.directory (directory_bytes d)
