-- The context in which places and values are checked, as in the definitions.
use Rattle.std.specs.Prelude.{ℕ, List, map, Option, option_map}
use Rattle.pv_model.specs.declared.perms.Perms.{Perms}
use Rattle.pv_model.specs.declared.target.Target.TheVariants.{Directory, Name}
use Rattle.pv_model.specs.Answers.Levels.{Level}
use Rattle.pv_model.specs.Machine.{AnswerLine, Setting, Bytes, entries_of_table, Promises, Table}
use Rattle.pv_model.specs.declared.promises.Promises.{Promises as Set}
use Rattle.pv_promises.specs.Pledge.{bits_of}
use Rattle.pv_step_lines.specs.declared.levels.Basis.{Basis}
use Rattle.pv_step_lines.specs.Origin.{settings_in}
use Rattle.pv_step_lines.specs.Parts.{level_text_by, why}

abbrev pub basis_table : Basis → Table
basis_table b = entries_of_table b.table.now.table

abbrev pub settings_of_basis : Basis → List Setting
settings_of_basis b = settings_in b.origins.now

-- the levels of a directory and of a name
abbrev pub directory_level : ℕ → Option ℕ → Level
directory_level d entry = record { target = Directory d; entry = entry }

abbrev pub name_level : ℕ → Bytes → Option ℕ → Level
name_level d name entry = record { target = Name d name; entry = entry }

-- the line of a level
abbrev pub level_line : Basis → Perms → Level → AnswerLine
level_line b asked l = why b.pid (level_text_by b.tree.now.tree (basis_table b) (settings_of_basis b) asked l)

abbrev pub level_lines_of : Basis → Perms → List Level → List AnswerLine
level_lines_of b asked ls = map (level_line b asked) ls

-- the two requested values
abbrev pub sets_of : Option (Option Set × Option Set) → Option (Option Promises × Option Promises)
sets_of asked = option_map (λ pair. (bits_of pair.0, bits_of pair.1)) asked
