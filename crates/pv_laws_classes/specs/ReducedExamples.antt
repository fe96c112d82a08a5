-- Full and reduced searches of four states. The reduced search visits fewer states because of the numbers of open files, of
-- dead registers, and of steps on registers; both report the same texts, but not always with the same witnesses.
use Rattle.std.specs.Prelude.{◌≡◌, ℕ, false, IsTrue, List, [], ◌∷◌, ◌++◌, length, map, codes, pos}
use Rattle.pv_model.specs.declared.instruction.Instruction.TheVariants.{Set, Fork, Open, Mkdir}
use Rattle.pv_model.specs.declared.open_flags.Mode.TheVariants.{Read as Reading}
use Rattle.pv_model.specs.Machine.{Move, states_found, is_complete, move_text, State}
use Rattle.pv_laws_states.specs.ExampleStates.{no_programs, state_after, flags}
use Rattle.pv_laws_answers.specs.Search.{reported}
use Rattle.pv_laws_classes.specs.Reduced.{reduced_found, is_reduced_complete, reduced_reported}

-- the full and the reduced search are complete, and report the same texts in the same order. They visit these numbers of states
pub record VisitedStates (s : State) (all reduced : ℕ) : Type 0 where
  pub complete : IsTrue (is_complete no_programs 30 s)
  pub reduced_complete : IsTrue (is_reduced_complete no_programs s 30)
  pub all_states : length (states_found no_programs 30 s) ≡ all
  pub reduced_states : length (reduced_found no_programs s 30) ≡ reduced
  pub texts : map move_text (reduced_reported no_programs s 30) ≡ map move_text (reported no_programs 30 s)

-- a process forks, and both processes open the root and exit. The states in which both processes have an open file, or one of
-- them has exited after that, occur with two numberings of open files
abbrev pub both_open : State
both_open = state_after (Fork ∷ Open (codes "/") (flags Reading false) ∷ []) []

-- a process forks, and both processes make the same directory. The result of the later one is an error, in a register that
-- is dead; so the states after both orders differ in dead registers
abbrev pub both_make : State
both_make = state_after (Fork ∷ Mkdir (codes "/d") ∷ []) []

-- a process forks, and both processes set two registers
abbrev pub both_set : State
both_set = state_after (Fork ∷ Set 1 (pos 5) ∷ Set 2 (pos 6) ∷ []) []

-- a process forks, and both processes set a register and make the same directory
abbrev pub both_set_and_make : State
both_set_and_make = state_after (Fork ∷ Set 1 (pos 5) ∷ Mkdir (codes "/d") ∷ []) []

abbrev pub witnesses : List Move → List (List ℕ)
witnesses ms = map (λ m. m.witness) ms

-- the witnesses that both searches report: the fork, each process making the directory first, each exit, and the error of
-- process 2
abbrev pub common : List (List ℕ)
common = (1 ∷ []) ∷ (1 ∷ 1 ∷ 1 ∷ []) ∷ (1 ∷ 2 ∷ 2 ∷ []) ∷ (1 ∷ 1 ∷ 1 ∷ 1 ∷ []) ∷ (1 ∷ 2 ∷ 2 ∷ 2 ∷ []) ∷ (1 ∷ 1 ∷ 1 ∷ 2 ∷ 2 ∷ []) ∷ []

-- the witnesses of the error of process 1 have the same length, but in the reduced search process 1 sets its register
-- directly before it
pub record WitnessExamples : Type 0 where
  pub full : witnesses (reported no_programs 30 both_set_and_make) ≡ common ++ (1 ∷ 1 ∷ 2 ∷ 2 ∷ 1 ∷ []) ∷ []
  pub reduced : witnesses (reduced_reported no_programs both_set_and_make 30) ≡ common ++ (1 ∷ 2 ∷ 2 ∷ 1 ∷ 1 ∷ []) ∷ []
