-- The texts of `explore`, `access`, `exposure` and `policy` by the reduced search.
use Rattle.std.specs.Prelude.{ℕ, Bool, if◌then◌else◌, List, [], ◌∷◌, ◌++◌, length, map, flat_map, filter, filter_map, codes, Option}
use Rattle.std.specs.Fmt.{decimal}
use Rattle.pv_model.specs.Machine.{accesses, Found, endings, endings_line, node_brief, named_files, AnswerLine, answer_line, answer_line_bytes, counted_from, Observer, Observation, observed, first_observations, of_calls, groups, Request, Requests, Bytes, Program, State}
use Rattle.pv_model.specs.Answers.Access.{file_read, is_unread, unread_line}
use Rattle.pv_model.specs.Answers.Explore.{completeness_text, move_lines}
use Rattle.pv_model.specs.Answers.Exposure
use Rattle.pv_model.specs.Answers.Observed.{observations_at, observation_lines}
use Rattle.pv_model.specs.Answers.Policy.{granted_calls, request, promise_lines, target_lines, idle_promise_lines, idle_permission_lines, restricted}
use Rattle.pv_model.specs.Answers.Policy
use Rattle.pv_model.specs.Answers.ProgramNames.{program_line}
use Rattle.pv_model_questions.specs.Accesses.{kept_files, lines_of_accesses}
use Rattle.pv_laws_classes.specs.Reduced.{reduced_moves_of, reduced_found, reduced_reported, is_reduced_complete}

-- ---- observations

module _ {X : Type 0} (observe : Observer X) (program_of : Bytes → Option Program) (limit : ℕ) (s : State) where
  -- the items that are observed of the steps that the search makes from a visited state
  abbrev pub reduced_observations_at : Found → List (Observation X)
  reduced_observations_at f = flat_map (λ m. map (observed m) (observe f.state m.pid m.stepped)) (reduced_moves_of program_of s f)

  -- the items that are observed of all its steps, in the order of the search
  abbrev pub reduced_observations : List (Observation X)
  reduced_observations = flat_map reduced_observations_at (reduced_found program_of s limit)

-- ---- the last lines

-- the number of visited states, and whether no state was left out
abbrev pub classes_line : ℕ → Bool → AnswerLine
classes_line count complete = answer_line 0 (codes "DONE") (decimal count ++ codes " classes, " ++ completeness_text complete)

module _ (program_of : Bytes → Option Program) (limit : ℕ) (s : State) where
  abbrev pub classes_done_line : AnswerLine
  classes_done_line = classes_line (length (reduced_found program_of s limit)) (is_reduced_complete program_of s limit)

  -- lines only if no state was left out
  abbrev pub if_no_other : List AnswerLine → List AnswerLine
  if_no_other lines = if is_reduced_complete program_of s limit then lines else []

  -- ---- explore

  unfoldable pub reduced_lines : List AnswerLine
  reduced_lines =
      flat_map move_lines (reduced_reported program_of s limit)
      ++ classes_done_line ∷ endings_line (length (endings (reduced_found program_of s limit))) ∷ []

  -- ---- access

  -- the files that some step reads or executes
  abbrev pub reduced_files_read : List ℕ
  reduced_files_read = filter_map (λ o. file_read o.item) (reduced_observations (of_calls accesses) program_of limit s)

  -- the files of the first tree, other than `init`, that no step reads or executes
  abbrev pub reduced_unread_files : List ℕ
  reduced_unread_files = filter (is_unread program_of limit s reduced_files_read) (named_files s.tree)

  module _ (files : List Bytes) where
    -- the accesses of the steps of the search, each with its first step
    abbrev pub reduced_accesses : List (Observation AnswerLine)
    reduced_accesses = first_observations answer_line_bytes (reduced_observations (of_calls (lines_of_accesses files s.tree)) program_of limit s)

    unfoldable pub reduced_access_lines : List AnswerLine
    reduced_access_lines =
        flat_map (observation_lines (λ l. l ∷ [])) reduced_accesses
        ++ if_no_other (map (unread_line program_of limit s) (kept_files files s.tree reduced_unread_files))
        ++ classes_done_line ∷ []

  -- ---- policy

  -- the next calls of the live processes of visited states
  abbrev pub reduced_requests : Requests
  reduced_requests = flat_map (observations_at (of_calls (request program_of)) program_of) (reduced_found program_of s limit)

  -- a program: its number, and its calls
  abbrev pub reduced_policy_of_program : ℕ × (Observation Request × Requests) → List AnswerLine
  reduced_policy_of_program (k, (first, rs)) =
      program_line program_of s.tree k first.item.process.program
      ∷ promise_lines rs ++ target_lines rs ++ if_no_other (idle_promise_lines rs ++ idle_permission_lines (restricted rs))

  abbrev pub lines_of_reduced_requests : Requests → List AnswerLine
  lines_of_reduced_requests rs =
      flat_map reduced_policy_of_program (counted_from 1 (groups Policy.request_program_key rs))
      ++ classes_done_line ∷ []

  -- the lines of all calls
  unfoldable pub reduced_policy_lines : List AnswerLine
  reduced_policy_lines = lines_of_reduced_requests reduced_requests

  -- the lines of the granted calls alone
  unfoldable pub reduced_granted_policy_lines : List AnswerLine
  reduced_granted_policy_lines = lines_of_reduced_requests (granted_calls reduced_requests)

  -- ---- exposure

  -- the live processes of visited states
  abbrev pub reduced_located : List Exposure.Located
  reduced_located = Exposure.located (reduced_found program_of s limit)

  abbrev pub reduced_safe_lines : List Exposure.Located → List AnswerLine
  reduced_safe_lines ls = if_no_other (map (λ f. answer_line 0 (codes "SAFE") (node_brief s.tree f)) (Exposure.safe_files program_of limit s ls))

  -- a program: its number, and its processes in all visited states
  abbrev pub reduced_exposure_of_program : ℕ × (Exposure.Located × List Exposure.Located) → List AnswerLine
  reduced_exposure_of_program (k, (first, ls)) =
      program_line program_of s.tree k first.process.program
      ∷ flat_map Exposure.leak_lines (groups (λ leak. leak.file) (flat_map Exposure.leaks_at ls)) ++ reduced_safe_lines ls

  unfoldable pub reduced_exposure_lines : List AnswerLine
  reduced_exposure_lines =
      flat_map reduced_exposure_of_program (counted_from 1 (groups Exposure.program_key reduced_located))
      ++ classes_done_line ∷ []
