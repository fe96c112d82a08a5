-- A run in which a process gains and loses permissions at a place, with its needs and settings. It shows that the laws
-- of answers are not vacuous.
use Rattle.std.specs.Prelude.{◌≡◌, ℕ, true, false, IsTrue, IsFalse, List, replicate, [], ◌∷◌, codes, None, Some}
use Rattle.std.specs.List.{list_any}
use Rattle.pv_model.specs.declared.call.Call.TheVariants.{Open, Rename as CallRename}
use Rattle.pv_model.specs.declared.errno.Errno.TheVariants.{EACCES}
use Rattle.pv_model.specs.declared.instruction.Instruction.TheVariants.{Unveil, Pledge, Fork, Rename}
use Rattle.pv_model.specs.declared.open_flags.Mode.TheVariants.{Read}
use Rattle.pv_model.specs.declared.outcome.Cause.TheVariants.{Unveil as ByUnveil}
use Rattle.pv_model.specs.declared.outcome.Outcome.TheVariants.{Failed}
use Rattle.pv_model.specs.declared.perms.Perms.{Perms}
use Rattle.pv_model.specs.declared.promise.Promise.TheVariants.{Stdio, Cpath}
use Rattle.pv_model.specs.declared.target.Target.TheVariants.{Directory}
use Rattle.pv_model.specs.Machine.{answer, same_promise, Setting, settings_of, make, manifest_tree, Program, Process, State, first_state, step, run, Tree, directory_node, Table}
use Rattle.pv_model.specs.Promises.{mask}
use Rattle.pv_laws_states.specs.ExampleStates.{no_programs}
use Rattle.pv_laws_answers.specs.OverTime.{permissions_of_name, IsOwnStep, place_in}
use Rattle.pv_laws_answers.specs.Reach.{AsksAt, opening_for}
use Rattle.pv_laws_answers.specs.Settings.{settings_along}
use Rattle.pv_laws_answers.specs.ProcessImages.{Moment, IsCallOf, with_promises, with_own_table}
use Rattle.pv_laws_answers.specs.Wanted.{reports_need}

-- a directory moves from one whose entry grants c into one whose entry grants r too
abbrev pub renaming_directory : Program
renaming_directory =
    Unveil (Some (codes "/a")) (Some (codes "c"))
    ∷ Unveil (Some (codes "/b")) (Some (codes "rc"))
    ∷ Fork
    ∷ Unveil None None
    ∷ Rename (codes "/a/x") (codes "/b/x")
    ∷ Pledge (Some (codes "stdio cpath")) None
    ∷ []

-- the directories are nodes 2, 3 and 4
abbrev pub three_directories : Tree
three_directories = manifest_tree 14 16 (make (codes "/a") (directory_node []) ∷ make (codes "/b") (directory_node []) ∷ make (codes "/a/x") (directory_node []) ∷ [])

abbrev pub state_after_moves : ℕ → State
state_after_moves steps = (run no_programs (replicate steps 1) (first_state three_directories renaming_directory)).final

abbrev pub only_r : Perms
only_r = record { r = true; w = false; x = false; c = false }

abbrev pub only_c : Perms
only_c = record { r = false; w = false; x = false; c = true }

abbrev pub r_and_c : Perms
r_and_c = record { r = true; w = false; x = false; c = true }

abbrev pub set_at_line : ℕ → Setting
set_at_line line = record { line = line; earlier = false }

-- the fifth step is the rename, and the sixth is the pledge
pub record AnswersExamples : Type 0 where
  pub table : Table
  pub first : Process
  pub moved : Process
  pub pledged : Process
  pub renames : IsOwnStep no_programs (state_after_moves 4) 1 first moved table
  pub narrows : IsOwnStep no_programs (state_after_moves 5) 1 moved pledged table
  -- the process gains r at a name in the moved directory, and loses it by the pledge
  pub before : permissions_of_name (state_after_moves 4) first 4 (codes "y") ≡ only_c
  pub come : permissions_of_name (state_after_moves 5) moved 4 (codes "y") ≡ r_and_c
  pub gone : permissions_of_name (state_after_moves 6) pledged 4 (codes "y") ≡ only_c
  -- the child has the settings of its parent
  pub settings : settings_of (settings_along no_programs (replicate 6 1) [] (first_state three_directories renaming_directory)) 2 ≡ set_at_line 1 ∷ set_at_line 2 ∷ []
  -- the process has r in the second directory, but not in the first
  pub asks : AsksAt no_programs (state_after_moves 5) 1 moved (Open (codes "/b/x") (opening_for Read)) (place_in (state_after_moves 5).tree 3 (codes "x")) only_r
  -- the rename is a call of the only program image of the run; it needs cpath, and is killed without it
  pub process_image : List Moment
  pub call : Moment
  pub of_process_image : IsCallOf no_programs (replicate 6 1) (first_state three_directories renaming_directory) 1 process_image call
  pub made : call.state ≡ state_after_moves 4
  pub asks_cpath : IsTrue (list_any (same_promise Cpath) call.asked.promises)
  pub enough : IsFalse (reports_need (step no_programs (with_promises call.state 1 (mask Cpath)) 1).lines)
  pub needed : IsTrue (reports_need (step no_programs (with_promises call.state 1 (mask Stdio)) 1).lines)
  -- if the process's table lacks c for the second directory, that entry refuses the rename
  pub lacks :
      (answer no_programs (with_own_table call.state 1 ((Directory 2, only_c) ∷ (Directory 3, only_r) ∷ [])) 1 (CallRename (codes "/a/x") (codes "/b/x"))).outcome
      ≡ Failed EACCES (ByUnveil (Some 1))
