-- An upper bound of the number of entries in and below a directory, by the number of its names and the length of its
-- path.
use Rattle.std.specs.Prelude.{ℕ, zero, suc, ◌-◌, ◌*◌, ◌^◌, List, length}
use Rattle.pv_cli_host.specs.declared.directories.TheConstants.{LONGEST_PATH}

-- a bound of the number of levels of directories below a path, since each name makes a path longer
abbrev pub levels_below : List ℕ → ℕ
levels_below path = LONGEST_PATH - length path

-- a directory with this number of levels below it has fewer entries
abbrev pub entry_bound : ℕ → ℕ
entry_bound zero = 1
entry_bound (suc levels) = 2 ^ 64 * entry_bound levels

-- the bound for a directory with this number of names
abbrev pub entries_within : ℕ → List ℕ → ℕ
entries_within names path = names * entry_bound (levels_below path)
