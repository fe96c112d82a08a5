-- The records of open files.
use Rattle.std.specs.Prelude.{◌≡◌, ℕ, ◌<◌, ◌≤◌, List, length, map, nat_lt, if◌then◌else◌, Option, None, Some, option_map, option_and_then, slice_index}
use Rattle.slab.specs.Slab.{Slab, get, ContainsKey}
use Rattle.pv_model.specs.declared.limits.TheConstants.{OPEN_FILES}
use Rattle.pv_model.specs.Machine.{least_free, OpenFile}
use Rattle.pv_files.specs.declared.opened.Opened.{Opened}
use Rattle.pv_files.specs.Counted.{Counted}

abbrev pub file_of : Opened → OpenFile
file_of o = record { node = o.node; mode = o.mode; append = o.append; offset = o.offset; listed = o.listed }

-- the number of users of an open file
abbrev pub users_of : Option Opened → ℕ
users_of None = 0
users_of (Some o) = o.users

abbrev pub counted_of : List (Option Opened) → Counted
counted_of slots = record { files = map (option_map file_of) slots; users = map users_of slots }

-- the open file in a record, or None if it has no user
abbrev pub where_used : Opened → Option Opened
where_used o = if nat_lt 0 o.users then Some o else None

-- the open file in the record with a key
abbrev pub record_at : Slab Opened → ℕ → Option Opened
record_at records key = option_and_then where_used (get records key)

-- the open files of the numbers with these keys
abbrev pub slots_under : Slab Opened → List ℕ → List (Option Opened)
slots_under records keys = map (record_at records) keys

-- the invariant of the keys of all numbers: each has a record, and no two have the same
pub record AreKeys (records : Slab Opened) (keys : List ℕ) : Type 0 where
  pub count : length keys ≡ OPEN_FILES
  pub recorded : (k : ℕ) → k < OPEN_FILES → ContainsKey records (slice_index keys k)
  pub own : (j k : ℕ) → j < OPEN_FILES → k < OPEN_FILES → slice_index keys j ≡ slice_index keys k → j ≡ k

-- the invariant of the number at which a search for a free one starts: all numbers below it are in use; and of the
-- number at which a copy ends: no number from it on is in use
pub record AreRecords (records : Slab Opened) (keys : List ℕ) (first most : ℕ) : Type 0 where
  pub are_keys : AreKeys records keys
  pub used : first ≤ least_free (slots_under records keys)
  pub few : most ≤ OPEN_FILES
  pub unused : (k : ℕ) → most ≤ k → k < OPEN_FILES → record_at records (slice_index keys k) ≡ None
