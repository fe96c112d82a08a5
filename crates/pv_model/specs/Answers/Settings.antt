-- The settings of table entries: the line of the unveil that last gave each entry its permissions, tracked step by
-- step.
use Rattle.std.specs.Prelude.{ℕ, zero, suc, Bool, true, false, if◌then◌else◌, List, [], ◌∷◌, map, Option, None, Some, is_some, unwrap_or}
use Rattle.std.specs.FinMap.Entries.{find, put}
use Rattle.std.specs.Ordering.{nat_cmp}
use Rattle.pv_model.specs.declared.call.Call.{Call}
use Rattle.pv_model.specs.declared.call.Call.TheVariants.{Fork, Unveil, Execve}
use Rattle.pv_model.specs.declared.outcome.Outcome.{Outcome}
use Rattle.pv_model.specs.declared.outcome.Outcome.TheVariants.{Value}
use Rattle.pv_model.specs.declared.place.Place.{Place}
use Rattle.pv_model.specs.Bytes.{Bytes}
use Rattle.pv_model.specs.Calls.Restraints.{entries_of_table}
use Rattle.pv_model.specs.Effect.{end_of}
use Rattle.pv_model.specs.Perms.{no_permissions}
use Rattle.pv_model.specs.State.{Process, State, process_at}
use Rattle.pv_model.specs.Touch.{place_found}
use Rattle.pv_model.specs.Unveil.{target_of, entry_for}
use Rattle.pv_model.specs.Walks.{unveil_walk}

-- the line where an entry was set, and whether that was in an earlier program
pub record Setting : Type 0 where
  pub line : ℕ
  pub earlier : Bool

-- the settings of each process's entries, by process number
abbrev pub Settings : Type 0
Settings = List (ℕ × List Setting)

abbrev pub settings_of : Settings → ℕ → List Setting
settings_of all pid = unwrap_or (find nat_cmp pid all) []

-- the list with the setting of an entry replaced, or appended
abbrev pub set_at : List Setting → ℕ → Setting → List Setting
set_at [] k setting = setting ∷ []
set_at (now ∷ rest) zero setting = setting ∷ rest
set_at (now ∷ rest) (suc k) setting = now ∷ set_at rest k setting

abbrev pub of_earlier_program : Setting → Setting
of_earlier_program setting = record setting { earlier = true }

-- the settings after an execve: those of the table, if it stays
abbrev pub after_execve : Option Process → List Setting → List Setting
after_execve None mine = mine
after_execve (Some p) mine = if is_some p.table then map of_earlier_program mine else []

module _ (s : State) (p : Process) where
  abbrev pub table_entry : Option Place → Option Process → Option ℕ
  table_entry (Some place) (Some after) = entry_for (entries_of_table after.table) (target_of s.tree place)
  table_entry _ _ = None

  -- the entry that an unveil of a path set, in the state after it
  abbrev pub entry_given : Bytes → Option Process → Option ℕ
  entry_given path after = table_entry (place_found (end_of s p (unveil_walk path no_permissions))) after

  -- the settings after an unveil: the entry is set at the line of the call
  abbrev pub after_unveil : Option ℕ → List Setting → List Setting
  after_unveil None mine = mine
  after_unveil (Some k) mine = set_at mine k (record { line = p.line; earlier = false })

module _ (s : State) (pid : ℕ) (p : Process) (after : State) where
  -- the settings after a call; `after` is the state after it
  unfoldable pub settings_after : Settings → Call → Outcome → Settings
  settings_after all Fork (Value child) = put nat_cmp child (settings_of all pid) all
  settings_after all (Unveil (Some path) permissions) (Value n) =
      put nat_cmp pid (after_unveil s p (entry_given s p path (process_at after pid)) (settings_of all pid)) all
  settings_after all (Execve path) (Value n) = put nat_cmp pid (after_execve (process_at after pid) (settings_of all pid)) all
  settings_after all _ _ = all
