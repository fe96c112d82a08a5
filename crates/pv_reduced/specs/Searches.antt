-- The data of a reduced search.
use Rattle.std.specs.Prelude.{◌≡◌, ℕ, List, [], get_or, length, slice_index}
use Rattle.pv_reduced.specs.declared.search.ReducedSearch.{ReducedSearch}
use Rattle.pv_reduced.specs.Plan.{ReducedVisited, reduced_bytes_at, reduced_first_visited, moving_at, reduced_reported_from, reduced_reported_steps, reduced_visited_after_steps, reduced_visited_at, reduced_visited_from}
use Rattle.pv_explore.specs.Plan.{state_at}
use Rattle.pv_model.specs.Machine.{Observer, Bytes, program_of, State}

abbrev pub reduced_visited_of : {O : Type 0} → ReducedSearch O → ReducedVisited
reduced_visited_of s = record { bounds = s.bounds.items; keys = s.lists; witnesses = s.witnesses; reported = s.reported; endings = s.endings; complete = s.complete }

-- each visited state has a witness, and a process that must make the next step, or 0
pub record HaveWitnesses (visited : ReducedVisited) : Type 0 where
  pub witnesses : length visited.keys ≡ length visited.witnesses
  pub bounds : length visited.keys ≡ length visited.bounds

abbrev pub reduced_witness_at : ReducedVisited → ℕ → List ℕ
reduced_witness_at visited number = get_or visited.witnesses number []

-- the processes that make a step in state `number`, given its witness
abbrev pub moving_in : State → ReducedVisited → ℕ → List ℕ → List ℕ
moving_in s visited number witness = moving_at program_of s (slice_index visited.bounds number) witness

-- ---- the moves of a search

module _ {O : Type 0} where
  -- the state at the end of the witness of state `number`
  abbrev pub reduced_state_of : State → ReducedSearch O → ℕ → State
  reduced_state_of s search number = state_at program_of s (reduced_witness_at (reduced_visited_of search) number)

  -- the processes that make a step in it
  abbrev pub moving_of : State → ReducedSearch O → ℕ → List ℕ
  moving_of s search number = moving_in s (reduced_visited_of search) number (reduced_witness_at (reduced_visited_of search) number)

  module _ (observe : Observer Bytes) (limit : ℕ) (s : State) where
    -- the search made a step of a process from state `number`, and the bytes that the step writes
    abbrev pub MakesReducedStep : ℕ → ℕ → ReducedSearch O → ReducedSearch O → Type 0
    MakesReducedStep number pid old new = reduced_visited_of new ≡ reduced_visited_at observe limit program_of s (reduced_witness_at (reduced_visited_of old) number) pid (reduced_visited_of old)

    abbrev pub reduced_text_of_move : ℕ → ℕ → ReducedSearch O → Bytes
    reduced_text_of_move number pid search = reduced_bytes_at observe limit program_of s (reduced_witness_at (reduced_visited_of search) number) pid (reduced_visited_of search)

    -- the search made a step of each process that may from state `number`, and the bytes that these steps write
    abbrev pub MakesReducedSteps : ℕ → ReducedSearch O → ReducedSearch O → Type 0
    MakesReducedSteps number old new = reduced_visited_of new ≡ reduced_visited_after_steps observe limit program_of s (reduced_witness_at (reduced_visited_of old) number) (moving_of s old number) (reduced_visited_of old)

    abbrev pub reduced_text_of_moves : ℕ → ReducedSearch O → Bytes
    reduced_text_of_moves number search = reduced_reported_steps observe limit program_of s (reduced_witness_at (reduced_visited_of search) number) (moving_of s search number) (reduced_visited_of search)

-- all steps from the first state on, of at most `limit` states: the data after them, and the bytes that they write
module _ (observe : Observer Bytes) (limit : ℕ) (s : State) where
  abbrev pub reduced_all_visited : ReducedVisited
  reduced_all_visited = reduced_visited_from observe limit program_of s limit 0 (reduced_first_visited s)

  abbrev pub reduced_all_reported : Bytes
  reduced_all_reported = reduced_reported_from observe limit program_of s limit 0 (reduced_first_visited s)
