-- The note of a file.
use Rattle.std.specs.Prelude.{ℕ, ◌/◌, ◌%◌, [], ◌∷◌}
use Rattle.pv_model.specs.Machine.{Bytes}

-- byte 0, and the number of the file; no line begins with byte 0
abbrev pub note : ℕ → Bytes
note n = 0 ∷ n / 256 ∷ n % 256 ∷ []
