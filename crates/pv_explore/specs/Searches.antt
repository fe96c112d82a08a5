-- The data of a search.
use Rattle.std.specs.Prelude.{◌≡◌, ℕ, false, List, [], ◌∷◌, ◌++◌, get_or, map}
use Rattle.pv_explore.specs.declared.search.Search.{Search}
use Rattle.pv_explore.specs.declared.states.Visit.{Visit}
use Rattle.pv_explore.specs.declared.states.Visit.TheVariants.{Known, Full, New}
use Rattle.pv_explore.specs.Plan.{Visited, step_bytes_at, endings_after, first_visited, live_at, reported_bytes, reported_from, reported_steps, state_at, state_key, visited_after, visited_after_steps, visited_at, visited_from}
use Rattle.pv_explore.specs.VisitedStates.{HasNumber}
use Rattle.pv_explore.specs.Witnesses.{longer}
use Rattle.pv_model.specs.Machine.{Move, Observer, Bytes, program_of, State}
use Rattle.pv_step_lines.specs.OfSession.Running.{stepped}

abbrev pub visited_of : {O : Type 0} → Search O → Visited
visited_of s = record { keys = s.states; witnesses = s.witnesses; reported = s.reported; endings = s.endings; complete = s.complete }

-- the step of a process in the state at the end of a witness
abbrev pub move_of : List ℕ → ℕ → State → Move
move_of witness pid s = record { witness = witness; pid = pid; stepped = stepped s pid }

-- the witness of state `number`
abbrev pub witness_at : Visited → ℕ → List ℕ
witness_at visited number = get_or visited.witnesses number []

-- each visited state is the one at the end of its witness
abbrev pub AreAt : State → Visited → Type 0
AreAt s visited = visited.keys ≡ map (λ witness. state_key (state_at program_of s witness)) visited.witnesses

-- the trees at ends after a visit: the tree is added if the state was added
abbrev pub endings_found : Visit → List Bytes → State → List Bytes
endings_found (Known number) endings t = endings
endings_found Full endings t = endings
endings_found New endings t = endings_after endings t

-- the data after a visit: the witness is added if the state was added
abbrev pub with_witness : Visit → List ℕ → Visited → Visited
with_witness (Known number) witness visited = visited
with_witness Full witness visited = record visited { complete = false }
with_witness New witness visited = record visited { witnesses = visited.witnesses ++ witness ∷ [] }

-- ---- the moves of a search

module _ {O : Type 0} where
  -- the state at the end of the witness of state `number`
  abbrev pub state_of_number : State → Search O → ℕ → State
  state_of_number s search number = state_at program_of s (witness_at (visited_of search) number)

  abbrev pub live_of : State → Search O → ℕ → List ℕ
  live_of s search number = live_at program_of s (witness_at (visited_of search) number)

  -- the search knows this state by its number
  abbrev pub IsAt : State → Search O → ℕ → Type 0
  IsAt s search number = HasNumber search.states number (state_of_number s search number)

  module _ (observe : Observer Bytes) where
    -- the bytes that a step of a process from state `number` writes; a machine is in that state
    abbrev pub text_from : State → ℕ → ℕ → Search O → Bytes
    text_from from number pid search = reported_bytes search.reported pid (longer search.witnesses number pid) (observe from pid (stepped from pid))

    module _ (limit : ℕ) where
      -- the search made that step
      abbrev pub HasMovedFrom : State → ℕ → ℕ → Search O → Search O → Type 0
      HasMovedFrom from number pid old new = visited_of new ≡ visited_after limit (visited_of old) (move_of (longer old.witnesses number pid) pid from) (observe from pid (stepped from pid))

      module _ (s : State) where
        -- the search made a step of a process from state `number`, and the bytes that the step writes
        abbrev pub HasMoved : ℕ → ℕ → Search O → Search O → Type 0
        HasMoved number pid old new = visited_of new ≡ visited_at observe limit program_of s (witness_at (visited_of old) number) pid (visited_of old)

        abbrev pub text_of_move : ℕ → ℕ → Search O → Bytes
        text_of_move number pid search = step_bytes_at observe limit program_of s (witness_at (visited_of search) number) pid (visited_of search)

        -- the search made a step of each live process from state `number`, and the bytes that these steps write
        abbrev pub HasMovedAll : ℕ → Search O → Search O → Type 0
        HasMovedAll number old new = visited_of new ≡ visited_after_steps observe limit program_of s (witness_at (visited_of old) number) (live_of s old number) (visited_of old)

        abbrev pub text_of_moves : ℕ → Search O → Bytes
        text_of_moves number search = reported_steps observe limit program_of s (witness_at (visited_of search) number) (live_of s search number) (visited_of search)

-- all steps from the first state on, of at most `limit` states: the data after them, and the bytes that they write
module _ (observe : Observer Bytes) (limit : ℕ) (s : State) where
  abbrev pub all_visited : Visited
  all_visited = visited_from observe limit program_of s limit 0 (first_visited s)

  abbrev pub all_reported : Bytes
  all_reported = reported_from observe limit program_of s limit 0 (first_visited s)
