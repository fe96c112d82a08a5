-- The slots of processes and of programs, as the specification's process table.
use Rattle.std.specs.Prelude.{◌≡◌, ℕ, ◌≤◌, ◌+◌, ◌&&◌, ◌==◌, not, Bool, true, List, [], ◌∷◌, map, length, count_by, nat_le, nat_lt, if◌then◌else◌, slice_get, is_none, is_some, Option, None, Some}
use Rattle.std.specs.List.{list_all}
use Rattle.pv_model.specs.declared.limits.TheConstants.{PROCESSES, LAST_PROCESS}
use Rattle.pv_model.specs.Machine.{Program, Process, ProcessRecord, live, ended_record}
use Rattle.pv_procs.specs.declared.slot.ProcessSlot.{ProcessSlot}
use Rattle.pv_procs.specs.declared.shared.Shared.{Shared}
use Rattle.pv_procs.specs.ProcessTable.{ProcessTable}

abbrev pub shared_program : Option Shared → Program
shared_program None = []
shared_program (Some s) = s.program

abbrev pub shared_program_at : List Shared → ℕ → Program
shared_program_at programs k = shared_program (slice_get programs k)

abbrev pub user_count : Option Shared → ℕ
user_count None = 0
user_count (Some s) = s.users

-- the number of users of the program in slot k
abbrev pub users_at : List Shared → ℕ → ℕ
users_at programs k = user_count (slice_get programs k)

-- the process in a slot, with this program
abbrev pub process_of : Program → ProcessSlot → Process
process_of program slot = record {
  promises = slot.record.pledge.promises;
  execpromises = slot.record.pledge.execpromises;
  table = slot.record.unveiled.table;
  locked = slot.record.unveiled.locked;
  directory = slot.record.directory;
  descriptors = slot.record.descriptors;
  program = program;
  line = slot.record.context.line;
  registers = slot.record.context.registers;
  buffer = slot.record.context.buffer;
  parent = slot.parent;
}

abbrev pub record_by_slot : ProcessSlot → Program → Option ℕ → ProcessRecord
record_by_slot slot program None = live (process_of program slot)
record_by_slot slot program (Some status) = ended_record slot.parent status

-- the record of a slot
abbrev pub slot_record : List Shared → ProcessSlot → ProcessRecord
slot_record programs slot = record_by_slot slot (shared_program_at programs slot.program) slot.status

abbrev pub slot_records : List Shared → List ProcessSlot → List (ℕ × ProcessRecord)
slot_records programs slots = map (λ slot. (slot.number, slot_record programs slot)) slots

abbrev pub process_table_of : List ProcessSlot → List Shared → ℕ → ProcessTable
process_table_of slots programs last = record { processes = slot_records programs slots; last_process = last }

-- whether a slot has a live process with program k
abbrev pub uses : ℕ → ProcessSlot → Bool
uses k slot = is_none slot.status && (slot.program == k)

abbrev pub is_above : ℕ → ProcessSlot → Bool
is_above n slot = nat_lt n slot.number

-- whether the numbers of slots ascend
abbrev pub ascends : List ProcessSlot → Bool
ascends [] = true
ascends (slot ∷ slots) = list_all (is_above slot.number) slots && ascends slots

abbrev pub is_numbered : ℕ → ProcessSlot → Bool
is_numbered last slot = nat_le 1 slot.number && nat_le slot.number last

-- the numbers ascend, from 1 to the last that was assigned; each slot refers to a slot of a program; and the users of a
-- program are the live processes that have it
pub record AreConsistentSlots (slots : List ProcessSlot) (programs : List Shared) (last_number : ℕ) : Type 0 where
  pub ascending : ascends slots ≡ true
  pub numbers : list_all (is_numbered last_number) slots ≡ true
  pub last : last_number ≤ LAST_PROCESS
  pub table : length programs ≡ PROCESSES
  pub within : list_all (λ (slot : ProcessSlot). nat_lt slot.program PROCESSES) slots ≡ true
  pub users : (k : ℕ) → users_at programs k ≡ count_by (uses k) slots

-- no program from place `most` on has users
pub record IsIdleFrom (programs : List Shared) (most : ℕ) : Type 0 where
  pub few : most ≤ PROCESSES
  pub idle : (k : ℕ) → most ≤ k → users_at programs k ≡ 0

-- there are 32 slots, and the vectors of used and of spare ones have room for all of them
pub record IsRoomy (used spare capacity spare_capacity : ℕ) : Type 0 where
  pub full : used + spare ≡ PROCESSES
  pub room : PROCESSES ≤ capacity
  pub spare_room : PROCESSES ≤ spare_capacity

-- ---- changes

-- a child of process `old` becomes a child of process `new`
abbrev pub adopted : ℕ → ℕ → ProcessSlot → ProcessSlot
adopted old new slot = if slot.parent == old then record slot { parent = new } else slot

-- whether the process in a slot is live or has a parent
abbrev pub is_claimed : ProcessSlot → Bool
is_claimed slot = not (is_some slot.status && (slot.parent == 0))

-- whether a slot has an ended child of a process
abbrev pub is_ended_child : ℕ → ProcessSlot → Bool
is_ended_child pid slot = (slot.parent == pid) && is_some slot.status
