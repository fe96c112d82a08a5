-- The access that a process's table gives to a file, collected name by name.
use Rattle.std.specs.Prelude.{ℕ, Bool, false, ◌||◌, if◌then◌else◌, List, [], ◌∷◌, map, filter, filter_map, fold, min, Option, None, Some, is_some}
use Rattle.std.specs.List.{list_all}
use Rattle.std.specs.Option.{option_or}
use Rattle.pv_model.specs.declared.perms.Perms.{Perms}
use Rattle.pv_model.specs.declared.target.Target.TheVariants.{Name}
use Rattle.pv_model.specs.Machine.{Bytes, entries_of_table, Process, State, process_at, Tree, ancestors, Table, entry_for, permissions_at, directory_rights}
use Rattle.pv_model.specs.Closed.{opens_or_moves}
use Rattle.pv_audit.specs.declared.table_access.TableAccess.{TableAccess}
use Rattle.pv_audit.specs.declared.suspects.Suspect.{Suspect}

-- the lesser of two numbers, either of which may be absent
abbrev pub lesser : Option ℕ → Option ℕ → Option ℕ
lesser None b = b
lesser (Some a) None = Some a
lesser (Some a) (Some b) = Some (min a b)

-- the least number of a list, if the list is not empty
abbrev pub least : List ℕ → Option ℕ
least [] = None
least (k ∷ ks) = lesser (Some k) (least ks)

-- the entry that governs a name of a file
abbrev pub governing : Tree → Table → ℕ × Bytes → Option ℕ
governing t table name = option_or (entry_for table (Name name.0 name.1)) (directory_rights t table name.0)

-- an entry, if its permissions pass a test
abbrev pub passing : (Perms → Bool) → Table → Option ℕ → Option ℕ
passing test table None = None
passing test table (Some k) = if test (permissions_at table k) then Some k else None

-- the governing entries whose permissions pass a test
abbrev pub entries_passing : (Perms → Bool) → Table → List (Option ℕ) → List ℕ
entries_passing test table ks = filter (λ k. test (permissions_at table k)) (filter_map (λ k. k) ks)

-- the least entry with c that governs a directory or one of its ancestors
abbrev pub least_above : Tree → Table → ℕ → Option ℕ
least_above t table d = least (entries_passing (λ permissions. permissions.c) table (map (directory_rights t table) (ancestors t d)))

-- the access before any name is noted
abbrev pub nothing : TableAccess
nothing = record { gives = None; above = None; writes = false }

-- the access with another name of the file noted
abbrev pub with_name_noted : Tree → Table → TableAccess → ℕ × Bytes → TableAccess
with_name_noted t table table_access name = record {
  gives = lesser table_access.gives (passing opens_or_moves table (governing t table name));
  above = lesser table_access.above (least_above t table name.0);
  writes = table_access.writes || is_some (passing (λ permissions. permissions.w) table (governing t table name));
}

abbrev pub table_entries : Option Process → Table
table_entries None = []
table_entries (Some p) = entries_of_table p.table

-- a process for which no name is noted yet
abbrev pub suspect : ℕ → Suspect
suspect pid = record { pid = pid; table_access = nothing }

-- a process with another name of the file noted
abbrev pub note_of : State → ℕ × Bytes → Suspect → Suspect
note_of s name x = record x { table_access = with_name_noted s.tree (table_entries (process_at s x.pid)) x.table_access name }

-- a process with all of these names noted
abbrev pub with_names_noted : State → List (ℕ × Bytes) → Suspect → Suspect
with_names_noted s names x = fold (λ y name. note_of s name y) x names

abbrev pub are_live : State → List Suspect → Bool
are_live s xs = list_all (λ x. is_some (process_at s x.pid)) xs
