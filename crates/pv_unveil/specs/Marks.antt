-- The marks of targets.
use Rattle.std.specs.Prelude.{ℕ, Bool, ◌==◌, ◌+◌, ◌%◌, length}
use Rattle.std.specs.Int.{bit_at}
use Rattle.pv_model.specs.declared.target.Target.{Target}
use Rattle.pv_model.specs.declared.target.Target.TheVariants.{Directory, Name}
use Rattle.pv_unveil.specs.declared.marks.Marks.{Marks}

-- whether the mark of a number is set in a row of 64
abbrev pub is_marked : ℕ → ℕ → Bool
is_marked row number = bit_at row (number % 64) == 1

-- whether the mark of a target is set
abbrev pub has_mark : Marks → Target → Bool
has_mark marks (Directory d) = is_marked marks.directories d
has_mark marks (Name d name) = is_marked marks.names (d + length name)
