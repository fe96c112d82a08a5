-- Laws of observations: the texts that `explore` reports are one.
use Rattle.std.specs.Prelude.{◌≡◌, ℕ, [], ◌∷◌, ◌++◌, length, map, flat_map, Option}
use Rattle.pv_model.specs.Machine.{states_found, endings, endings_line, of_trace, observations, first_observations, Bytes, Program, State, trace_bytes}
use Rattle.pv_model.specs.Answers.Explore.{done_line, explore_lines}
use Rattle.pv_model.specs.Answers.Observed.{lines_observed, observation_lines}

-- `explore` reports the observations of the lines of steps, and then the numbers of states and endings
abbrev pub ExploreReportsObservations : Type 0
ExploreReportsObservations =
    (program_of : Bytes → Option Program) (limit : ℕ) (s : State)
    → explore_lines program_of limit s
    ≡ flat_map (observation_lines (map of_trace)) (first_observations trace_bytes (observations lines_observed program_of limit s))
    ++ done_line program_of limit s ∷ endings_line (length (endings (states_found program_of limit s))) ∷ []
