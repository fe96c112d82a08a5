-- The keys of entries, and the array of keys of a table.
use Rattle.std.specs.Prelude.{◌≡◌, ◌≤◌, ◌==◌, ℕ, Bool, true, false, List, length, map, bytes_eq}
use Rattle.std.specs.List.{list_all}
use Rattle.pv_model.specs.declared.limits.TheConstants.{UNVEILS}
use Rattle.pv_model.specs.declared.target.Target.{Target}
use Rattle.pv_model.specs.declared.target.Target.TheVariants.{Directory as ForDirectory, Name as ForName}
use Rattle.pv_model.specs.Machine.{Bytes, Table}
use Rattle.pv_unveil.specs.Marks.{has_mark}
use Rattle.pv_unveil.specs.declared.key.Key.{Key}
use Rattle.pv_unveil.specs.declared.key.Key.TheVariants.{Directory, Name}
use Rattle.pv_unveil.specs.declared.marks.Marks.{Marks}

abbrev pub key_of : Target → Key
key_of (ForDirectory d) = Directory d
key_of (ForName d name) = Name d

abbrev pub keys_of : Table → List Key
keys_of table = map (λ e. key_of e.0) table

-- whether a key is of the entry for a directory itself
abbrev pub is_own : ℕ → Key → Bool
is_own d (Directory e) = e == d
is_own d (Name e) = false

-- whether a key is of an entry for a name in a directory
abbrev pub is_name_in : ℕ → Key → Bool
is_name_in d (Directory e) = false
is_name_in d (Name e) = e == d

abbrev pub is_target_named : Bytes → Target → Bool
is_target_named name (ForDirectory d) = false
is_target_named name (ForName d other) = bytes_eq other name

-- at most 64 entries with capacity for that many, their keys, and their marks
pub record IsKeyed (table : Table) (beside : List Key) (marks : Marks) (capacity : ℕ) : Type 0 where
  pub keys : beside ≡ keys_of table
  pub few : length table ≤ UNVEILS
  pub marked : list_all (λ e. has_mark marks e.0) table ≡ true
  pub room : capacity ≡ UNVEILS
