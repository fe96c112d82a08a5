-- Full and reduced searches, by computation.
use Rattle.std.proofs.Common.{◌≡◌, ap₂, Bool, true, false, ◌&&◌, bytes_eq, List, [], ◌∷◌, ◌++◌, length, map, refl}
use Rattle.std.proofs.lemmas.Bool.{and_parts}
use Rattle.pv_model.specs.Machine.{states_found, is_complete, move_text, Bytes}
use Rattle.pv_model.specs.Answers.OnLiterals.{answers_on_literals}
use Rattle.pv_laws_trees.proofs.DirectoryEntries.{bytes_eq-same}
use Rattle.pv_laws_states.specs.ExampleStates.{no_programs}
use Rattle.pv_laws_answers.specs.Search.{reported}
use Rattle.pv_laws_classes.specs.Canonical.{canonical}
use Rattle.pv_laws_classes.specs.Reduced.{representative, reduced_found, is_reduced_complete, reduced_reported}
use Rattle.pv_laws_classes.specs.ReducedExamples.{VisitedStates, both_open, both_make, both_set, both_set_and_make, witnesses, common, WitnessExamples}

-- a comparison of texts, which can be computed
abbrev are_same : List Bytes → List Bytes → Bool
are_same [] [] = true
are_same [] (y ∷ ys) = false
are_same (x ∷ xs) [] = false
are_same (x ∷ xs) (y ∷ ys) = bytes_eq x y && are_same xs ys

same-texts : (xs ys : List Bytes) → are_same xs ys ≡ true → xs ≡ ys
same-texts [] [] same = refl
same-texts [] (y ∷ ys) same = let no : false ≡ true = same in cc no
same-texts (x ∷ xs) [] same = let no : false ≡ true = same in cc no
same-texts (x ∷ xs) (y ∷ ys) same =
    let parts = and_parts (bytes_eq x y) (are_same xs ys) same in ap₂ (λ z (zs : List Bytes). z ∷ zs) (bytes_eq-same x y parts.0) (same-texts xs ys parts.1)

files-complete : is_complete no_programs 30 both_open ≡ true
unfolding answers_on_literals
files-complete = refl

files-reduced_complete : is_reduced_complete no_programs both_open 30 ≡ true
unfolding answers_on_literals canonical representative reduced_found
files-reduced_complete = refl

files-all : length (states_found no_programs 30 both_open) ≡ 13
unfolding answers_on_literals
files-all = refl

files-reduced : length (reduced_found no_programs both_open 30) ≡ 10
unfolding answers_on_literals canonical representative reduced_found
files-reduced = refl

files-compared : are_same (map move_text (reduced_reported no_programs both_open 30)) (map move_text (reported no_programs 30 both_open)) ≡ true
unfolding answers_on_literals canonical representative reduced_found
files-compared = refl

pub files-happen : VisitedStates both_open 13 10
files-happen = record {
  complete = files-complete;
  reduced_complete = files-reduced_complete;
  all_states = files-all;
  reduced_states = files-reduced;
  texts = same-texts (map move_text (reduced_reported no_programs both_open 30)) (map move_text (reported no_programs 30 both_open)) files-compared;
}

dead-complete : is_complete no_programs 30 both_make ≡ true
unfolding answers_on_literals
dead-complete = refl

dead-reduced_complete : is_reduced_complete no_programs both_make 30 ≡ true
unfolding answers_on_literals canonical representative reduced_found
dead-reduced_complete = refl

dead-all : length (states_found no_programs 30 both_make) ≡ 13
unfolding answers_on_literals
dead-all = refl

dead-reduced : length (reduced_found no_programs both_make 30) ≡ 10
unfolding answers_on_literals canonical representative reduced_found
dead-reduced = refl

dead-compared : are_same (map move_text (reduced_reported no_programs both_make 30)) (map move_text (reported no_programs 30 both_make)) ≡ true
unfolding answers_on_literals canonical representative reduced_found
dead-compared = refl

pub dead-happen : VisitedStates both_make 13 10
dead-happen = record {
  complete = dead-complete;
  reduced_complete = dead-reduced_complete;
  all_states = dead-all;
  reduced_states = dead-reduced;
  texts = same-texts (map move_text (reduced_reported no_programs both_make 30)) (map move_text (reported no_programs 30 both_make)) dead-compared;
}

registers-complete : is_complete no_programs 30 both_set ≡ true
unfolding answers_on_literals
registers-complete = refl

registers-reduced_complete : is_reduced_complete no_programs both_set 30 ≡ true
unfolding answers_on_literals canonical representative reduced_found
registers-reduced_complete = refl

registers-all : length (states_found no_programs 30 both_set) ≡ 17
unfolding answers_on_literals
registers-all = refl

registers-reduced : length (reduced_found no_programs both_set 30) ≡ 13
unfolding answers_on_literals canonical representative reduced_found
registers-reduced = refl

registers-compared : are_same (map move_text (reduced_reported no_programs both_set 30)) (map move_text (reported no_programs 30 both_set)) ≡ true
unfolding answers_on_literals canonical representative reduced_found
registers-compared = refl

pub registers-happen : VisitedStates both_set 17 13
registers-happen = record {
  complete = registers-complete;
  reduced_complete = registers-reduced_complete;
  all_states = registers-all;
  reduced_states = registers-reduced;
  texts = same-texts (map move_text (reduced_reported no_programs both_set 30)) (map move_text (reported no_programs 30 both_set)) registers-compared;
}

full-witnesses : witnesses (reported no_programs 30 both_set_and_make) ≡ common ++ (1 ∷ 1 ∷ 2 ∷ 2 ∷ 1 ∷ []) ∷ []
unfolding answers_on_literals
full-witnesses = refl

reduced-witnesses : witnesses (reduced_reported no_programs both_set_and_make 30) ≡ common ++ (1 ∷ 2 ∷ 2 ∷ 1 ∷ 1 ∷ []) ∷ []
unfolding answers_on_literals canonical representative reduced_found
reduced-witnesses = refl

pub witnesses-happen : WitnessExamples
witnesses-happen = record { full = full-witnesses; reduced = reduced-witnesses }
