-- The algorithm of the reduced search: the data that it keeps, and the bytes that it writes.
use Rattle.std.specs.Prelude.{ℕ, zero, suc, Bool, true, false, if◌then◌else◌, nat_le, List, [], ◌∷◌, ◌++◌, length, filter, slice_get, slice_index, Option, None, Some}
use Rattle.std.specs.List.{list_any}
use Rattle.pv_reduced.specs.Keys.{reduced_parts, same_parts}
use Rattle.pv_explore.specs.Plan.{endings_after, live_at, move_at, reported_after, reported_bytes, state_at}
use Rattle.pv_laws_classes.specs.Reduced.{bound_by, may_step}
use Rattle.pv_model.specs.Machine.{Move, Observer, Bytes, Program, State}

-- the data of a search: of each visited state the process that must make the next step, or 0, the parts and the witness;
-- the texts that were observed, the encodings of the trees at ends, and whether no state was left out
pub record ReducedVisited : Type 0 where
  pub bounds : List ℕ
  pub keys : List (List Bytes)
  pub witnesses : List (List ℕ)
  pub reported : List Bytes
  pub endings : List Bytes
  pub complete : Bool

-- the data with another state
abbrev pub reduced_with_state_at : ReducedVisited → ℕ → List ℕ → State → ReducedVisited
reduced_with_state_at visited bound witness t = record visited {
  bounds = visited.bounds ++ bound ∷ [];
  keys = visited.keys ++ reduced_parts bound t ∷ [];
  witnesses = visited.witnesses ++ witness ∷ [];
  endings = endings_after visited.endings t;
}

abbrev pub is_known_reduced : ReducedVisited → ℕ → State → Bool
is_known_reduced visited bound t = list_any (same_parts (reduced_parts bound t)) visited.keys

module _ (limit : ℕ) where
  -- the data after a visit of the state at the end of a witness: it is added if it is new and the limit is not reached
  abbrev pub reduced_with_found_at : ReducedVisited → ℕ → List ℕ → State → ReducedVisited
  reduced_with_found_at visited bound witness t =
      if is_known_reduced visited bound t then visited
      else if nat_le limit (length visited.keys) then record visited { complete = false }
      else reduced_with_state_at visited bound witness t

  -- the data after a step of which these texts were observed
  abbrev pub reduced_visited_after : ReducedVisited → ℕ → Move → List Bytes → ReducedVisited
  reduced_visited_after visited bound m texts = record (reduced_with_found_at visited bound m.witness m.stepped.after) { reported = reported_after visited.reported texts }

module _ (program_of : Bytes → Option Program) (s : State) where
  -- the processes that make a step in the state at the end of a witness
  abbrev pub moving_at : ℕ → List ℕ → List ℕ
  moving_at bound witness = filter (may_step bound) (live_at program_of s witness)

module _ (observe : Observer Bytes) (limit : ℕ) (program_of : Bytes → Option Program) (s : State) where
  -- the texts of the step of a process in the state at the end of a witness
  abbrev pub reduced_texts_at : List ℕ → ℕ → List Bytes
  reduced_texts_at witness pid = observe (state_at program_of s witness) pid (move_at program_of s witness pid).stepped

  -- the bytes that the step writes, and the data after it
  abbrev pub reduced_bytes_at : List ℕ → ℕ → ReducedVisited → Bytes
  reduced_bytes_at witness pid visited = reported_bytes visited.reported pid (witness ++ pid ∷ []) (reduced_texts_at witness pid)

  abbrev pub reduced_visited_at : List ℕ → ℕ → ReducedVisited → ReducedVisited
  reduced_visited_at witness pid visited = reduced_visited_after limit visited (bound_by (state_at program_of s witness) pid) (move_at program_of s witness pid) (reduced_texts_at witness pid)

  -- the steps of processes in that state, in sequence: the bytes that they write, and the data after them
  abbrev pub reduced_reported_steps : List ℕ → List ℕ → ReducedVisited → Bytes
  reduced_reported_steps witness [] visited = []
  reduced_reported_steps witness (pid ∷ pids) visited = reduced_bytes_at witness pid visited ++ reduced_reported_steps witness pids (reduced_visited_at witness pid visited)

  abbrev pub reduced_visited_after_steps : List ℕ → List ℕ → ReducedVisited → ReducedVisited
  reduced_visited_after_steps witness [] visited = visited
  reduced_visited_after_steps witness (pid ∷ pids) visited = reduced_visited_after_steps witness pids (reduced_visited_at witness pid visited)

  -- the bytes of the steps from state k on, of at most a given number of states
  abbrev pub and_reduced_report : (ReducedVisited → Bytes) → ℕ → ReducedVisited → Option (List ℕ) → Bytes
  and_reduced_report rest bound visited None = []
  and_reduced_report rest bound visited (Some witness) =
      reduced_reported_steps witness (moving_at program_of s bound witness) visited ++ rest (reduced_visited_after_steps witness (moving_at program_of s bound witness) visited)

  abbrev pub reduced_reported_from : ℕ → ℕ → ReducedVisited → Bytes
  reduced_reported_from zero k visited = []
  reduced_reported_from (suc states) k visited = and_reduced_report (reduced_reported_from states (suc k)) (slice_index visited.bounds k) visited (slice_get visited.witnesses k)

  -- the data after those steps
  abbrev pub and_reduced_visit : (ReducedVisited → ReducedVisited) → ℕ → ReducedVisited → Option (List ℕ) → ReducedVisited
  and_reduced_visit rest bound visited None = visited
  and_reduced_visit rest bound visited (Some witness) = rest (reduced_visited_after_steps witness (moving_at program_of s bound witness) visited)

  abbrev pub reduced_visited_from : ℕ → ℕ → ReducedVisited → ReducedVisited
  reduced_visited_from zero k visited = visited
  reduced_visited_from (suc states) k visited = and_reduced_visit (reduced_visited_from states (suc k)) (slice_index visited.bounds k) visited (slice_get visited.witnesses k)

-- the data with the first state alone
abbrev pub reduced_first_visited : State → ReducedVisited
reduced_first_visited s = record {
  bounds = 0 ∷ [];
  keys = reduced_parts 0 s ∷ [];
  witnesses = [] ∷ [];
  reported = [];
  endings = endings_after [] s;
  complete = true;
}
