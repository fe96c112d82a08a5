-- The algorithm of the search: the data that it keeps, and the bytes that it writes.
use Rattle.std.specs.Prelude.{ℕ, zero, suc, Bool, true, false, if◌then◌else◌, nat_le, List, [], ◌∷◌, ◌++◌, length, map, bytes_eq, codes, slice_get, Option, None, Some}
use Rattle.std.specs.List.{list_any}
use Rattle.pv_model.specs.Machine.{Move, move, has_ended, endings_line, witness_text, AnswerLine, state_numbers, tree_numbers, Observer, Bytes, live_processes, named_tree, Program, State, run, text_line, Tree}
use Rattle.pv_model.specs.Answers.Explore.{states_line}
use Rattle.pv_explore.specs.Observing.{is_shown}
use Rattle.pv_step_cache.specs.OfStateEncoding.Packed.{packed_all}

-- the encodings of a state and of a tree
abbrev pub state_key : State → Bytes
state_key s = packed_all (state_numbers s)

abbrev pub tree_key : Tree → Bytes
tree_key t = packed_all (tree_numbers t)

-- the data of a search: the encoding and the witness of each visited state, the texts that were observed, the encodings
-- of the trees at ends, and whether no state was left out
pub record Visited : Type 0 where
  pub keys : List Bytes
  pub witnesses : List (List ℕ)
  pub reported : List Bytes
  pub endings : List Bytes
  pub complete : Bool

-- the list with a byte string appended, if it is new
abbrev pub added_to : List Bytes → Bytes → List Bytes
added_to ks k = if list_any (bytes_eq k) ks then ks else ks ++ k ∷ []

-- the texts that were observed, after more of them
abbrev pub reported_after : List Bytes → List Bytes → List Bytes
reported_after reported [] = reported
reported_after reported (t ∷ ts) = reported_after (added_to reported t) ts

-- the BY line of a step with its witness, and a text of the step
abbrev pub move_bytes : ℕ → List ℕ → Bytes → Bytes
move_bytes pid witness text = text_line pid (codes "BY") (witness_text witness) ++ text

abbrev pub shown_bytes : ℕ → List ℕ → Bytes → Bytes
shown_bytes pid witness text = if is_shown text then move_bytes pid witness text else []

-- the bytes written of a text, given the texts that were observed before
abbrev pub new_bytes : List Bytes → ℕ → List ℕ → Bytes → Bytes
new_bytes reported pid witness text = if list_any (bytes_eq text) reported then [] else shown_bytes pid witness text

-- the bytes written of the texts of a step
abbrev pub reported_bytes : List Bytes → ℕ → List ℕ → List Bytes → Bytes
reported_bytes reported pid witness [] = []
reported_bytes reported pid witness (t ∷ ts) = new_bytes reported pid witness t ++ reported_bytes (added_to reported t) pid witness ts

abbrev pub endings_after : List Bytes → State → List Bytes
endings_after endings t = if has_ended t then added_to endings (tree_key (named_tree t.tree)) else endings

-- the data with another state and its witness
abbrev pub with_state_at : Visited → List ℕ → State → Visited
with_state_at visited witness t = record visited { keys = visited.keys ++ state_key t ∷ []; witnesses = visited.witnesses ++ witness ∷ []; endings = endings_after visited.endings t }

abbrev pub with_state : Visited → Move → Visited
with_state visited m = with_state_at visited m.witness m.stepped.after

abbrev pub is_known : Visited → State → Bool
is_known visited t = list_any (bytes_eq (state_key t)) visited.keys

-- the last lines of an answer
abbrev pub result_lines : ℕ → Bool → ℕ → List AnswerLine
result_lines states complete endings = states_line states complete ∷ endings_line endings ∷ []

module _ (program_of : Bytes → Option Program) (s : State) where
  -- the state at the end of a witness
  abbrev pub state_at : List ℕ → State
  state_at witness = (run program_of witness s).final

  -- the step of a process in that state
  abbrev pub move_at : List ℕ → ℕ → Move
  move_at witness pid = move program_of (record { witness = witness; state = state_at witness }) pid

  abbrev pub live_at : List ℕ → List ℕ
  live_at witness = map (λ p. p.0) (live_processes (state_at witness).processes)

module _ (limit : ℕ) where
  -- the data after a visit of the state at the end of a witness: it is added if it is new and the limit is not reached
  abbrev pub with_found_at : Visited → List ℕ → State → Visited
  with_found_at visited witness t =
      if is_known visited t then visited
      else if nat_le limit (length visited.keys) then record visited { complete = false }
      else with_state_at visited witness t

  abbrev pub with_found : Visited → Move → Visited
  with_found visited m = with_found_at visited m.witness m.stepped.after

  -- the data after a step of which these texts were observed
  abbrev pub visited_after : Visited → Move → List Bytes → Visited
  visited_after visited m texts = record (with_found visited m) { reported = reported_after visited.reported texts }

module _ (observe : Observer Bytes) (limit : ℕ) (program_of : Bytes → Option Program) (s : State) where
  -- the texts of the step of a process in the state at the end of a witness
  abbrev pub texts_at : List ℕ → ℕ → List Bytes
  texts_at witness pid = observe (state_at program_of s witness) pid (move_at program_of s witness pid).stepped

  -- the bytes that the step writes, and the data after it
  abbrev pub step_bytes_at : List ℕ → ℕ → Visited → Bytes
  step_bytes_at witness pid visited = reported_bytes visited.reported pid (witness ++ pid ∷ []) (texts_at witness pid)

  abbrev pub visited_at : List ℕ → ℕ → Visited → Visited
  visited_at witness pid visited = visited_after limit visited (move_at program_of s witness pid) (texts_at witness pid)

  -- the steps of processes in that state, in sequence: the bytes that they write, and the data after them
  abbrev pub reported_steps : List ℕ → List ℕ → Visited → Bytes
  reported_steps witness [] visited = []
  reported_steps witness (pid ∷ pids) visited = step_bytes_at witness pid visited ++ reported_steps witness pids (visited_at witness pid visited)

  abbrev pub visited_after_steps : List ℕ → List ℕ → Visited → Visited
  visited_after_steps witness [] visited = visited
  visited_after_steps witness (pid ∷ pids) visited = visited_after_steps witness pids (visited_at witness pid visited)

  -- the bytes of the steps from state k on, of at most a given number of states
  abbrev pub and_report : (Visited → Bytes) → Visited → Option (List ℕ) → Bytes
  and_report rest visited None = []
  and_report rest visited (Some witness) = reported_steps witness (live_at program_of s witness) visited ++ rest (visited_after_steps witness (live_at program_of s witness) visited)

  abbrev pub reported_from : ℕ → ℕ → Visited → Bytes
  reported_from zero k visited = []
  reported_from (suc states) k visited = and_report (reported_from states (suc k)) visited (slice_get visited.witnesses k)

  -- the data after those steps
  abbrev pub and_visit : (Visited → Visited) → Visited → Option (List ℕ) → Visited
  and_visit rest visited None = visited
  and_visit rest visited (Some witness) = rest (visited_after_steps witness (live_at program_of s witness) visited)

  abbrev pub visited_from : ℕ → ℕ → Visited → Visited
  visited_from zero k visited = visited
  visited_from (suc states) k visited = and_visit (visited_from states (suc k)) visited (slice_get visited.witnesses k)

-- the data with the first state alone
abbrev pub first_visited : State → Visited
first_visited s = record { keys = state_key s ∷ []; witnesses = [] ∷ []; reported = []; endings = endings_after [] s; complete = true }
