-- The full search and the reduced search.
use Rattle.std.specs.Prelude.{ℕ, Bool, true, false, List}
use Rattle.pv_explore.specs.Observing
use Rattle.pv_explore.specs.Visiting.{Visits}
use Rattle.pv_laws_classes.specs.Reduced.{is_reduced_complete, reduced_found}
use Rattle.pv_laws_classes.specs.ReducedAnswers.{classes_line, reduced_lines, reduced_exposure_lines, reduced_granted_policy_lines, reduced_policy_lines}
use Rattle.pv_model.specs.Machine.{Found, is_complete, states_found, AnswerLine, Observer, Bytes, program_of, State}
use Rattle.pv_model.specs.Answers.Explore.{explore_lines, states_line}
use Rattle.pv_model.specs.Answers.Exposure.{exposure_lines}
use Rattle.pv_model.specs.Answers.Policy.{granted_policy_lines, policy_lines}
use Rattle.pv_reduced.specs.declared.kind.SearchKind.{SearchKind}
use Rattle.pv_reduced.specs.declared.kind.SearchKind.TheVariants.{Full, Reduced}
use Rattle.pv_reduced.specs.Lines

-- the visited states
abbrev pub found_by_kind : SearchKind → ℕ → State → List Found
found_by_kind Full limit s = states_found program_of limit s
found_by_kind Reduced limit s = reduced_found program_of s limit

-- whether no state was left out
abbrev pub is_complete_by : SearchKind → ℕ → State → Bool
is_complete_by Full limit s = is_complete program_of limit s
is_complete_by Reduced limit s = is_reduced_complete program_of s limit

abbrev pub states_by : SearchKind → ℕ → State → Visits
states_by kind limit s = record { found = found_by_kind kind limit s; complete = is_complete_by kind limit s }

-- the last line of an answer, given the number of visited states and whether no state was left out
abbrev pub count_line : SearchKind → ℕ → Bool → AnswerLine
count_line Full count complete = states_line count complete
count_line Reduced count complete = classes_line count complete

-- ---- observations

module _ (observe : Observer Bytes) (limit : ℕ) (s : State) where
  -- the output of a search with an observer
  abbrev pub observed_by : SearchKind → Bytes
  observed_by Full = Observing.observed_bytes observe limit s
  observed_by Reduced = Lines.reduced_observed_bytes observe limit s

  -- its result: the number of visited states, whether no state was left out, the number of different trees at the ends of
  -- schedules, and the texts recorded
  abbrev pub IsSearchedBy : SearchKind → ℕ → Bool → ℕ → List Bytes → Type 0
  IsSearchedBy Full states complete ends texts = Observing.IsSearched observe limit s states complete ends texts
  IsSearchedBy Reduced states complete ends texts = Lines.IsReducedSearched observe limit s states complete ends texts

-- ---- answers

-- of all calls, or of the granted ones alone
abbrev pub policy_lines_by : Bool → SearchKind → ℕ → State → List AnswerLine
policy_lines_by false Full limit s = policy_lines program_of limit s
policy_lines_by true Full limit s = granted_policy_lines program_of limit s
policy_lines_by false Reduced limit s = reduced_policy_lines program_of limit s
policy_lines_by true Reduced limit s = reduced_granted_policy_lines program_of limit s

abbrev pub exposure_lines_by : SearchKind → ℕ → State → List AnswerLine
exposure_lines_by Full limit s = exposure_lines program_of limit s
exposure_lines_by Reduced limit s = reduced_exposure_lines program_of limit s

abbrev pub explore_lines_by : SearchKind → ℕ → State → List AnswerLine
explore_lines_by Full limit s = explore_lines program_of limit s
explore_lines_by Reduced limit s = reduced_lines program_of limit s
