-- The lines of `exposure` by a kind of search.
use Rattle.std.specs.Prelude.{ℕ, Bool, List, [], ◌∷◌, ◌++◌, flat_map, length}
use Rattle.pv_model.specs.Machine.{AnswerLine, Bytes, counted_from, program_of, State, Tree}
use Rattle.pv_model_questions.specs.ExposureAbout.{exposed_lines_about}
use Rattle.pv_reduced.specs.declared.kind.SearchKind.{SearchKind}
use Rattle.pv_reduced.specs.Kinds.{count_line, found_by_kind, is_complete_by}
use Rattle.pv_exposure.specs.Collected.{Exposed, lines_of_exposed}

-- the lines of the definition about given files
abbrev pub exposed_lines_by : List Bytes → SearchKind → ℕ → State → List AnswerLine
exposed_lines_by files kind limit s =
    exposed_lines_about files program_of s.tree (is_complete_by kind limit s) (found_by_kind kind limit s)
    (count_line kind (length (found_by_kind kind limit s)) (is_complete_by kind limit s))

-- all lines, given the kind of search, the number of visited states and whether the search is complete
abbrev pub all_exposed_lines : SearchKind → List Bytes → Tree → Bool → ℕ → List Exposed → List AnswerLine
all_exposed_lines kind files t complete states es = flat_map (lines_of_exposed files t complete) (counted_from 1 es) ++ count_line kind states complete ∷ []
