-- The bytes written of observations are those of the first observations, and those of `explore` its lines.
use Rattle.std.proofs.Common.{◌≡◌, ◌∙◌, sym, ap, ap₂, ℕ, ◌<◌, ◌≤◌, Bool, List, [], ◌∷◌, ◌++◌, length, map, flat_map, refl}
use Rattle.std.proofs.lemmas.Grind.{flat_map-append}
use Rattle.std.proofs.lemmas.List.{length-map, map-append}
use Rattle.pv_reduced.specs.Lines.{IsReducedSearched, reduced_observed_bytes, reduced_states}
use Rattle.pv_reduced.specs.Plan.{ReducedVisited}
use Rattle.pv_reduced.specs.Searches.{reduced_all_reported, reduced_all_visited}
use Rattle.pv_reduced.proofs.PlannedReduction.{Finds, plan-finds}
use Rattle.pv_explore.specs.Observing.{no_text, trace_text}
use Rattle.pv_explore.specs.Plan.{tree_key}
use Rattle.pv_explore.specs.Visiting.{found_at, visits_of}
use Rattle.pv_explore.proofs.PlannedSearch.{written}
use Rattle.pv_streams.proofs.ProperPrefixes.{lines-long}
use Rattle.pv_explore.proofs.ReportedBytes.{HaveEmpty, explored, text_observed, written-first}
use Rattle.pv_explore.proofs.VisitedList.{states-at}
use Rattle.pv_laws_classes.specs.Reduced.{reduced_found, reduced_moves, reduced_moves_of, reduced_reported}
use Rattle.pv_laws_classes.specs.ReducedAnswers.{classes_done_line, classes_line, reduced_lines, reduced_observations, reduced_observations_at}
use Rattle.pv_model.specs.Machine.{Found, Move, endings, endings_line, AnswerLine, answer_bytes, answer_line_bytes, Observation, Observer, observed, Bytes, program_of, State, trace_bytes}
use Rattle.pv_model.specs.Answers.Explore.{move_lines}

module _ (limit : ℕ) (s : State) where
  -- ---- the result of a search

  module _ (observe : Observer Bytes) where
    bytes-observed : written [] (reduced_observations observe program_of limit s) ≡ reduced_observed_bytes observe limit s
    unfolding reduced_observed_bytes
    bytes-observed = (written-first [] [] (λ t. refl) (reduced_observations observe program_of limit s)).0

    -- the bytes of a search from the first state
    pub reported-bytes : 1 ≤ limit → reduced_all_reported observe limit s ≡ reduced_observed_bytes observe limit s
    reported-bytes some = (plan-finds observe program_of limit s some).bytes_are ∙ bytes-observed

    pub is-searched : (visited : ReducedVisited) → 1 ≤ limit → visited ≡ reduced_all_visited observe limit s → (states : ℕ) (complete : Bool) (ends : ℕ) (texts : List Bytes) → states ≡ length visited.keys
        → complete ≡ visited.complete → ends ≡ length visited.endings → texts ≡ visited.reported → IsReducedSearched observe limit s states complete ends texts
    is-searched visited some is states complete ends texts states_are complete_is ends_are texts_are =
        let it : Finds observe program_of limit s (reduced_all_reported observe limit s) (reduced_all_visited observe limit s) = plan-finds observe program_of limit s some in
        record {
          states_are = states_are ∙ ap (λ (v : ReducedVisited). length v.keys) is ∙ ap length it.keeps.keys ∙ length-map (reduced_found program_of s limit) _;
          complete_is = complete_is ∙ ap (λ (v : ReducedVisited). v.complete) is ∙ it.keeps.complete;
          endings_are = ends_are ∙ ap (λ (v : ReducedVisited). length v.endings) is ∙ ap length it.keeps.endings ∙ length-map (endings (reduced_found program_of s limit)) tree_key;
          texts_are = texts_are ∙ ap (λ (v : ReducedVisited). v.reported) is ∙ it.reported_are ∙ (written-first [] [] (λ t. refl) (reduced_observations observe program_of limit s)).1;
        }

  -- the visited states
  pub states-are : (visited : ReducedVisited) → 1 ≤ limit → visited ≡ reduced_all_visited no_text limit s → visits_of s visited.witnesses visited.complete ≡ reduced_states limit s
  states-are visited some is =
      let it : Finds no_text program_of limit s (reduced_all_reported no_text limit s) (reduced_all_visited no_text limit s) = plan-finds no_text program_of limit s some in
      let found : map (found_at s) visited.witnesses ≡ reduced_found program_of s limit =
      ap (λ (v : ReducedVisited). map (found_at s) v.witnesses) is ∙ ap (map (found_at s)) it.keeps.witnesses ∙ states-at s (reduced_found program_of s limit) it.sound in
      let complete = ap (λ (v : ReducedVisited). v.complete) is ∙ it.keeps.complete in
      λ i. record { found = found i; complete = complete i }

  -- ---- the bytes of `explore`

  one-each : (ms : List Move) → flat_map (λ m. map (observed m) (trace_bytes m.stepped.lines ∷ [])) ms ≡ map text_observed ms
  one-each [] = refl
  one-each (m ∷ ms) = ap (λ os. text_observed m ∷ os) (one-each ms)

  -- the texts that are observed are those of the steps
  all-moves : (found : List Found) → flat_map (reduced_observations_at trace_text program_of limit s) found ≡ map text_observed (flat_map (reduced_moves_of program_of s) found)
  all-moves [] = refl
  all-moves (f ∷ found) =
      ap₂ (λ (a b : List (Observation Bytes)). a ++ b) (one-each (reduced_moves_of program_of s f)) (all-moves found)
      ∙ sym (map-append text_observed (reduced_moves_of program_of s f) (flat_map (reduced_moves_of program_of s) found))

  -- the bytes of the trace lines and of the last lines are those of `explore`
  abbrev pub last_lines : List AnswerLine
  last_lines = classes_done_line program_of limit s ∷ endings_line (length (endings (reduced_found program_of s limit))) ∷ []

  pub explore-bytes : reduced_observed_bytes trace_text limit s ++ answer_bytes last_lines ≡ answer_bytes (reduced_lines program_of limit s)
  unfolding reduced_lines
  explore-bytes =
      let ms : List Move = reduced_moves program_of s limit in
      ap (λ bs. bs ++ answer_bytes last_lines) (sym (bytes-observed trace_text) ∙ ap (written []) (all-moves (reduced_found program_of s limit)) ∙ explored [] ([] ∷ []) empty ms)
      ∙ sym (flat_map-append answer_line_bytes (flat_map move_lines (reduced_reported program_of s limit)) last_lines)
    where
      empty : HaveEmpty [] ([] ∷ [])
      empty [] = refl
      empty (b ∷ bs) = refl

  pub last-bytes : (observe : Observer Bytes) (states : ℕ) (complete : Bool) (ends : ℕ) (texts : List Bytes) → IsReducedSearched observe limit s states complete ends texts
      → answer_bytes (classes_line states complete ∷ endings_line ends ∷ []) ≡ answer_bytes last_lines
  last-bytes observe states complete ends texts it = λ i. answer_bytes (classes_line (it.states_are i) (it.complete_is i) ∷ endings_line (it.endings_are i) ∷ [])

  -- the last lines are not empty
  pub last-long : 0 < length (answer_bytes last_lines)
  last-long = lines-long [] (classes_done_line program_of limit s) (endings_line (length (endings (reduced_found program_of s limit))) ∷ [])
