-- Where the walks of a call end, and the lines of several walks.
use Rattle.std.proofs.Common.{◌≡◌, ◌∙◌, ℕ, true, List, [], ◌∷◌, ◌++◌, map, Some, Result, Ok, Err, refl, ap}
use Rattle.std.proofs.lemmas.Grind.{flat_map-append}
use Rattle.pv_model.specs.declared.errno.Errno.{Errno}
use Rattle.pv_model.specs.declared.place.Place.{Place}
use Rattle.pv_model.specs.Machine.{AnswerLine, answer_bytes, answer_line_bytes, Attempt, done, refused, check_start, end_of, start_directory, Process, State, process_at, place_found, is_directory_at, resolve, Walk}
use Rattle.pv_laws_states.specs.States.{IsValid}
use Rattle.pv_laws_states.proofs.AttemptValues.{Leads}
use Rattle.pv_laws_states.proofs.WalkStarts.{StartsWell, leads-start}
use Rattle.pv_unveil.specs.Up.{directory_of_place}
use Rattle.pv_unveil.proofs.ClimbSteps.{resolve-directory}
use Rattle.pv_step_lines.specs.OfCallsPath.Ends.{end_begun, if_given}

-- ---- the place of a walk is in a directory

module _ (s : State) (pid : ℕ) (me : Process) (whole : IsValid s) (lives : process_at s pid ≡ Some me) where
  found-directory : (w : Walk) (start : ℕ) → is_directory_at s.tree start ≡ true → (place : Place) → place_found (resolve s.tree w.follow start w.path) ≡ Some place
      → is_directory_at s.tree (directory_of_place place) ≡ true
  found-directory w start appears place found = by (resolve s.tree w.follow start w.path) refl found
    where
      by : (r : Result Place Errno) → resolve s.tree w.follow start w.path ≡ r → place_found r ≡ Some place → is_directory_at s.tree (directory_of_place place) ≡ true
      by (Err e) is none = cc none
      by (Ok there) is some =
          let same : there ≡ place = cc some in
          resolve-directory s.tree whole.tree.well_formed w.follow start w.path place appears (is ∙ ap Ok same)

  pub end-directory : (w : Walk) (place : Place) → end_begun s pid me w ≡ Some place → is_directory_at s.tree (directory_of_place place) ≡ true
  end-directory w place = by (check_start s pid me w.start w.path) (leads-start s pid me w.start w.path)
    where
      by : (a : Attempt (Unit {0})) → Leads (λ _. StartsWell s pid me (start_directory s me w.start w.path)) a → if_given a (place_found (end_of s me w)) ≡ Some place → is_directory_at s.tree (directory_of_place place) ≡ true
      by (done walks given) well found = found-directory w (start_directory s me w.start w.path) (well (whole.processes.placed pid me lives).directory) place found
      by (refused walks e cause) well none = cc none

-- ---- the lines of several walks

pub lines-append : {X : Type 0} (f : X → AnswerLine) (xs ys : List X) → answer_bytes (map f (xs ++ ys)) ≡ answer_bytes (map f xs) ++ answer_bytes (map f ys)
lines-append {X = X} f xs ys = ap answer_bytes (map-append xs ys) ∙ flat_map-append answer_line_bytes (map f xs) (map f ys)
  where
    map-append : (us vs : List X) → map f (us ++ vs) ≡ map f us ++ map f vs
    map-append [] vs = refl
    map-append (u ∷ us) vs = ap (λ (ls : List AnswerLine). f u ∷ ls) (map-append us vs)
