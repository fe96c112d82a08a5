-- The entries of the manifest in a source.
use Rattle.std.specs.Prelude.{◌≡◌, ℕ, Option, option_map}
use Rattle.pv_image_manifest.specs.Entries.{entry_of_line}
use Rattle.pv_image_manifest.specs.declared.entry.Entry.{Entry as ReadEntry}
use Rattle.pv_model.specs.Machine.{Entry}

-- an entry with the number of its line
abbrev pub numbered_entry : ℕ → Option Entry → Option (ℕ × Entry)
numbered_entry n entry = option_map (λ e. (n, e)) entry

-- a parsed entry is that of the line with this number
abbrev pub IsEntryOf : ℕ → Option Entry → Option ReadEntry → Type 0
IsEntryOf n entry read = option_map entry_of_line read ≡ numbered_entry n entry
