-- The output of a reduced search with an observer, and its result.
use Rattle.std.specs.Prelude.{◌≡◌, ℕ, Bool, List, length, map, flat_map}
use Rattle.pv_explore.specs.Observing.{observation_bytes}
use Rattle.pv_explore.specs.Visiting.{Visits}
use Rattle.pv_laws_classes.specs.Reduced.{is_reduced_complete, reduced_found}
use Rattle.pv_laws_classes.specs.ReducedAnswers.{reduced_observations}
use Rattle.pv_model.specs.Machine.{endings, Observation, Observer, first_observations, Bytes, program_of, State}

module _ (observe : Observer Bytes) (limit : ℕ) (s : State) where
  -- the texts that no earlier step has, each with its step
  abbrev pub reduced_first_texts : List (Observation Bytes)
  reduced_first_texts = first_observations (λ t. t) (reduced_observations observe program_of limit s)

  -- the output of a search
  unfoldable pub reduced_observed_bytes : Bytes
  reduced_observed_bytes = flat_map observation_bytes reduced_first_texts

  -- the result of a search: the number of visited states, whether no state was left out, the number of different trees at
  -- the ends of schedules, and the texts recorded
  pub record IsReducedSearched (states : ℕ) (complete : Bool) (endings_found : ℕ) (texts : List Bytes) : Type 0 where
    pub states_are : states ≡ length (reduced_found program_of s limit)
    pub complete_is : complete ≡ is_reduced_complete program_of s limit
    pub endings_are : endings_found ≡ length (endings (reduced_found program_of s limit))
    pub texts_are : texts ≡ map (λ o. o.item) reduced_first_texts

-- the visited states of a reduced search with a limit
abbrev pub reduced_states : ℕ → State → Visits
reduced_states limit s = record { found = reduced_found program_of s limit; complete = is_reduced_complete program_of s limit }
