-- The end of the first line of a text.
use Rattle.std.specs.Prelude.{◌≡◌, ◌⊎◌, [], ◌∷◌, ◌++◌}
use Rattle.pv_model.specs.Machine.{Bytes}

-- a text is its first line, a line feed and the rest; after the last line the line feed may be missing
abbrev pub IsSplit : Bytes → Bytes → Bytes → Type 0
IsSplit text line rest = (text ≡ line ++ 10 ∷ rest) ⊎ ((text ≡ line) × (rest ≡ []))
