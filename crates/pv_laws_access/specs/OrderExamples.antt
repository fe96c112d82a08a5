-- A directory whose names are returned one by one, and the listing of its tree. They show that the laws of order are
-- not vacuous.
use Rattle.std.specs.Prelude.{◌≡◌, ℕ, pos, false, true, IsTrue, [], ◌∷◌, ◌++◌, codes}
use Rattle.std.specs.Cmp.Lexicographic.{slice_cmp}
use Rattle.std.specs.FinMap.Entries.{is_sorted}
use Rattle.std.specs.Ordering.{nat_cmp}
use Rattle.std.specs.declared.cmp.Ordering.TheVariants.{Less}
use Rattle.pv_model.specs.declared.instruction.Instruction.TheVariants.{Open, Getdents, Mkdir}
use Rattle.pv_model.specs.declared.instruction.Operand.TheVariants.{Number}
use Rattle.pv_model.specs.declared.open_flags.OpenFlags.{OpenFlags}
use Rattle.pv_model.specs.declared.outcome.Outcome.TheVariants.{Text}
use Rattle.pv_model.specs.Machine.{Bytes, Program, State, step}
use Rattle.pv_model.specs.Listing.{lines_of_all}
use Rattle.pv_laws_states.specs.ExampleStates.{no_programs, making}
use Rattle.pv_laws_access.specs.NameExamples.{state_after_steps}
use Rattle.pv_laws_access.specs.Order.{ReportsBy, StaysOpen, by_names, Places, lines_at}

abbrev pub reading : OpenFlags
reading = record making { create = false; directory = true }

-- a file, which is node 2, a directory, which is node 3, with two names that were created in descending order, and
-- calls that list it
abbrev pub reporting : Program
reporting =
    Open (codes "/d.x") making
    ∷ Mkdir (codes "/d")
    ∷ Open (codes "/d/b") making
    ∷ Open (codes "/d/a") making
    ∷ Open (codes "/d") reading
    ∷ Getdents (Number (pos 3))
    ∷ Getdents (Number (pos 3))
    ∷ Getdents (Number (pos 3))
    ∷ []

abbrev pub reported_state : State
reported_state = state_after_steps reporting 5

-- all places of the tree
abbrev pub named_places : Places
named_places =
    ([], 1)
    ∷ (codes "d" ∷ [], 3)
    ∷ (codes "d" ∷ codes "a" ∷ [], 5)
    ∷ (codes "d" ∷ codes "b" ∷ [], 4)
    ∷ (codes "d.x" ∷ [], 2)
    ∷ []

-- a line with a path and a number
abbrev pub path_and_number : Bytes → ℕ → Bytes
path_and_number path n = path ++ n ∷ 10 ∷ []

pub record NamesAreReported : Type 0 where
  pub a : ReportsBy no_programs reported_state 1 3 (codes "a")
  pub stays : StaysOpen no_programs 3 [] (state_after_steps reporting 6)
  pub b : ReportsBy no_programs (state_after_steps reporting 6) 1 3 (codes "b")
  pub no_more : (step no_programs (state_after_steps reporting 7) 1).outcome ≡ Text (record { value = 0; len = 0 })
  -- the listing of the tree
  pub ascending : IsTrue (is_sorted by_names named_places)
  pub lines : lines_of_all reported_state.tree path_and_number ≡ lines_at path_and_number named_places
  -- compared as bytes, the last path would come before those of the directory's names
  pub not_by_bytes : slice_cmp nat_cmp (codes "/d.x") (codes "/d/a") ≡ Less
