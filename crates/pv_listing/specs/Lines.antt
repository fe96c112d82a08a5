-- Parts of a line, and iteration over the names of a directory.
use Rattle.std.specs.Prelude.{◌≡◌, ℕ, [], ◌∷◌, ◌++◌, codes, filter, Option, None, Some}
use Rattle.pv_model.specs.declared.kind.Kind.{Kind}
use Rattle.pv_model.specs.declared.kind.Kind.TheVariants.{Directory, File, Executable, Symlink}
use Rattle.pv_model.specs.Machine.{Bytes, is_past, Entries}

-- the letter of a kind of node
abbrev pub letter_of : Kind → Bytes
letter_of Directory = codes "d"
letter_of File = codes "f"
letter_of Executable = codes "x"
letter_of Symlink = codes "l"

-- the name after a slash, if there is one
abbrev pub last_name : Bytes → Option Bytes
last_name [] = None
last_name (slash ∷ name) = Some name

-- the entries whose names follow the last one
abbrev pub entries_after : Option Bytes → Entries → Entries
entries_after last es = filter (λ e. is_past last e.0) es

-- the first of these entries, and the path of its name in the directory; if there is none, the path of the directory
abbrev pub IsNextChild : Entries → Option Bytes → Bytes → Option ℕ → Bytes → Type 0
IsNextChild es last directory None path = (entries_after last es ≡ []) × (path ≡ directory)
IsNextChild es last directory (Some child) path =
    (name : Bytes) × (entries_after last es ≡ (name, child) ∷ entries_after (Some name) es) × (path ≡ directory ++ codes "/" ++ name)
