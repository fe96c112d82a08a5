-- Unveil tables, as contracts see them.
use Rattle.std.specs.Prelude.{Bool, [], ◌∷◌, Option, None, Some}
use Rattle.pv_model.specs.Machine.{Table}

-- a table, which is absent before its first entry, and its lock
pub record Unveiled : Type 0 where
  pub table : Option Table
  pub locked : Bool

-- the table of some entries, which is absent if there are none
abbrev pub in_force : Table → Option Table
in_force [] = None
in_force (e ∷ es) = Some (e ∷ es)
