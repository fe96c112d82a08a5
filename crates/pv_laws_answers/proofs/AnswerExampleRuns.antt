-- The worked run with answers, by computation.
use Rattle.std.proofs.Common.{◌≡◌, ℕ, false, ◌<◌, length, List, [], ◌∷◌, replicate, codes, slice_index_or, Some, refl, arith}
use Rattle.std.proofs.lemmas.List.Elements.{Contains-get_or}
use Rattle.std.specs.Prelude.{IsTrue, IsFalse}
use Rattle.std.specs.List.{list_any}
use Rattle.pv_model.specs.Machine.{same_promise, Process, first_state, process_at, answer, settings_of, step, Table, entries_of_table}
use Rattle.pv_model.specs.Answers.OnLiterals.{answers_on_literals}
use Rattle.pv_laws_answers.specs.Examples.{renaming_directory, three_directories, state_after_moves, only_r, only_c, r_and_c, set_at_line, AnswersExamples}
use Rattle.pv_laws_answers.specs.ProcessImages.{moments, process_images_of, Moment, IsCallOf, with_promises, with_own_table}
use Rattle.pv_model.specs.declared.call.Call.TheVariants.{Open, Rename as CallRename}
use Rattle.pv_model.specs.declared.errno.Errno.TheVariants.{EACCES}
use Rattle.pv_model.specs.declared.open_flags.Mode.TheVariants.{Read}
use Rattle.pv_model.specs.declared.outcome.Cause.TheVariants.{Unveil as ByUnveil}
use Rattle.pv_model.specs.declared.outcome.Outcome.TheVariants.{Failed}
use Rattle.pv_model.specs.declared.promise.Promise.TheVariants.{Stdio, Cpath}
use Rattle.pv_model.specs.declared.target.Target.TheVariants.{Directory}
use Rattle.pv_model.specs.Promises.{mask}
use Rattle.pv_laws_states.specs.ExampleStates.{no_programs}
use Rattle.pv_laws_states.proofs.ExampleStates.{or_first}
use Rattle.pv_laws_answers.specs.OverTime.{permissions_of_name, IsOwnStep, place_in}
use Rattle.pv_laws_answers.specs.Reach.{AsksAt, opening_for}
use Rattle.pv_laws_answers.specs.Settings.{settings_along}
use Rattle.pv_laws_answers.specs.Wanted.{reports_need}

abbrev first_after : ℕ → Process
first_after steps = or_first (process_at (state_after_moves steps) 1)

abbrev all_process_images : List (List Moment)
all_process_images = process_images_of (moments no_programs 1 (replicate 6 1) (first_state three_directories renaming_directory))

abbrev whole_process_image : List Moment
whole_process_image = slice_index_or all_process_images 0 []

abbrev no_call : Moment
no_call = record { state = state_after_moves 0; asked = record { line = 0; promises = []; walks = []; ends_process_image = false } }

abbrev table : Table
table = entries_of_table (first_after 4).table

renames : IsOwnStep no_programs (state_after_moves 4) 1 (first_after 4) (first_after 5) table
unfolding answers_on_literals
renames = record { at = refl; left = refl; in_image = refl; in_force = refl; locked = refl }

narrows : IsOwnStep no_programs (state_after_moves 5) 1 (first_after 5) (first_after 6) table
unfolding answers_on_literals
narrows = record { at = refl; left = refl; in_image = refl; in_force = refl; locked = refl }

before : permissions_of_name (state_after_moves 4) (first_after 4) 4 (codes "y") ≡ only_c
unfolding answers_on_literals
before = refl

come : permissions_of_name (state_after_moves 5) (first_after 5) 4 (codes "y") ≡ r_and_c
unfolding answers_on_literals
come = refl

gone : permissions_of_name (state_after_moves 6) (first_after 6) 4 (codes "y") ≡ only_c
unfolding answers_on_literals
gone = refl

settings : settings_of (settings_along no_programs (replicate 6 1) [] (first_state three_directories renaming_directory)) 2 ≡ set_at_line 1 ∷ set_at_line 2 ∷ []
unfolding answers_on_literals
settings = refl

asks : AsksAt no_programs (state_after_moves 5) 1 (first_after 5) (Open (codes "/b/x") (opening_for Read)) (place_in (state_after_moves 5).tree 3 (codes "x")) only_r
unfolding answers_on_literals
asks = record { walk = _; only = refl; end = refl; asks = refl; goes_with = refl; made = λ none. refl }

abbrev call : Moment
call = slice_index_or whole_process_image 4 no_call

one_process_image : length all_process_images ≡ 1
unfolding answers_on_literals
one_process_image = refl

six_calls : length whole_process_image ≡ 6
unfolding answers_on_literals
six_calls = refl

below : {n m : ℕ} (k : ℕ) → n ≡ m → k < m → k < n
below k same less = omega arith

of_process_image : IsCallOf no_programs (replicate 6 1) (first_state three_directories renaming_directory) 1 whole_process_image call
of_process_image =
    let one : 0 < 1 = omega arith in
    let fifth : 4 < 6 = omega arith in
    record { of_run = Contains-get_or all_process_images 0 [] (below 0 one_process_image one); of_process_image = Contains-get_or whole_process_image 4 no_call (below 4 six_calls fifth) }

made : call.state ≡ state_after_moves 4
unfolding answers_on_literals
made = refl

asks_cpath : IsTrue (list_any (same_promise Cpath) call.asked.promises)
unfolding answers_on_literals
asks_cpath = refl

enough : IsFalse (reports_need (step no_programs (with_promises call.state 1 (mask Cpath)) 1).lines)
unfolding answers_on_literals
enough = refl

needed : IsTrue (reports_need (step no_programs (with_promises call.state 1 (mask Stdio)) 1).lines)
unfolding answers_on_literals
needed = refl

lacks :
    (answer no_programs (with_own_table call.state 1 ((Directory 2, only_c) ∷ (Directory 3, only_r) ∷ [])) 1 (CallRename (codes "/a/x") (codes "/b/x"))).outcome
    ≡ Failed EACCES (ByUnveil (Some 1))
unfolding answers_on_literals
lacks = refl

pub answers-happen : AnswersExamples
answers-happen = record {
  table = table;
  first = first_after 4;
  moved = first_after 5;
  pledged = first_after 6;
  renames = renames;
  narrows = narrows;
  before = before;
  come = come;
  gone = gone;
  settings = settings;
  asks = asks;
  process_image = whole_process_image;
  call = call;
  of_process_image = of_process_image;
  made = made;
  asks_cpath = asks_cpath;
  enough = enough;
  needed = needed;
  lacks = lacks;
}
