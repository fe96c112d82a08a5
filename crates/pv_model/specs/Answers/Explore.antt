-- The text of `explore`: the states that any schedule can reach, in breadth-first order, and the texts of their steps.
use Rattle.std.specs.Prelude.{ℕ, suc, Bool, true, false, if◌then◌else◌, ◌==◌, List, [], ◌∷◌, ◌++◌, length, map, flat_map, filter, codes, bytes_eq, Option}
use Rattle.std.specs.Fmt.{decimal}
use Rattle.std.specs.List.{join_by, list_any, list_all}
use Rattle.pv_model.specs.Answers.Lines.{AnswerLine, answer_line, of_trace}
use Rattle.pv_model.specs.Answers.Numbers.{Numbers, same_state, tree_numbers}
use Rattle.pv_model.specs.Answers.Search
use Rattle.pv_model.specs.Bytes.{Bytes, is_empty}
use Rattle.pv_model.specs.Held.{live_processes, named_tree}
use Rattle.pv_model.specs.State.{Program, State}
use Rattle.pv_model.specs.Step.{Schedule, Stepped, step}
use Rattle.pv_model.specs.Trace.{trace_bytes}
use Rattle.pv_model.specs.Tree.{Tree}

-- ---- the states

-- a visited state with its witness: the process numbers of the steps that lead to it
pub record Found : Type 0 where
  pub witness : List ℕ
  pub state : State

-- a step of a live process from a visited state: its witness, which includes the step, the process and the result
pub record Move : Type 0 where
  pub witness : List ℕ
  pub pid : ℕ
  pub stepped : Stepped

abbrev pub is_found : State → List Found → Bool
is_found s found = list_any (λ f. same_state f.state s) found

abbrev pub found_by : Move → Found
found_by m = record { witness = m.witness; state = m.stepped.after }

-- whether a step leads to a visited state
abbrev pub leads_back : Move → List Found → Bool
leads_back m found = is_found m.stepped.after found

module _ (program_of : Bytes → Option Program) where
  abbrev pub move : Found → ℕ → Move
  move f pid = record { witness = f.witness ++ pid ∷ []; pid = pid; stepped = step program_of f.state pid }

  -- the steps from a state: one for each live process, by ascending number
  abbrev pub moves_of : Found → List Move
  moves_of f = map (λ p. move f p.0) (live_processes f.state.processes)

  module _ (limit : ℕ) where
    -- the visited states after a step, which adds its next state if that is new and the limit is not reached
    abbrev pub with_move : List Found → Move → List Found
    with_move found m = Search.with_element moves_of found_by leads_back limit found m

    abbrev pub found_after : (List Found → List Found) → List Found → Option Found → List Found
    found_after rest found f = Search.elements_after moves_of found_by leads_back limit rest found f

    -- the visited states after the steps from the next `states` states, beginning with number k
    abbrev pub found_from : ℕ → ℕ → List Found → List Found
    found_from states k found = Search.elements_from moves_of found_by leads_back limit states k found

    -- the states that steps reach from a state, each once, in breadth-first order, up to the limit
    unfoldable pub states_found : State → List Found
    states_found s = found_from limit 0 (record { witness = []; state = s } ∷ [])

    -- the steps from all visited states, in the order of the search
    abbrev pub moves : State → List Move
    moves s = flat_map moves_of (states_found s)

    -- whether every step leads to a visited state
    abbrev pub is_complete : State → Bool
    is_complete s = list_all (λ m. is_found m.stepped.after (states_found s)) (moves s)

-- ---- the reported steps

module _ {X : Type 0} (key : X → Numbers) where
  -- the elements whose key equals neither an earlier element's key nor one of the given keys
  abbrev pub elements_with_new_keys : List Numbers → List X → List X
  elements_with_new_keys had [] = []
  elements_with_new_keys had (x ∷ xs) = if list_any (bytes_eq (key x)) had then elements_with_new_keys had xs else x ∷ elements_with_new_keys (key x ∷ had) xs

abbrev pub move_text : Move → Bytes
move_text m = trace_bytes m.stepped.lines

-- the steps whose text no earlier step has
abbrev pub reported_moves : List Move → List Move
reported_moves ms = elements_with_new_keys move_text ([] ∷ []) ms

-- one more step before turns
abbrev pub onto_turns : ℕ → Schedule → Schedule
onto_turns pid [] = (pid, 1) ∷ []
onto_turns pid ((other, count) ∷ turns) = if pid == other then (pid, suc count) ∷ turns else (pid, 1) ∷ (other, count) ∷ turns

-- steps as turns: consecutive steps of one process are joined
abbrev pub in_turns : List ℕ → Schedule
in_turns [] = []
in_turns (pid ∷ pids) = onto_turns pid (in_turns pids)

abbrev pub turn_text : ℕ × ℕ → Bytes
turn_text (pid, count) = decimal pid ++ codes " " ++ decimal count

abbrev pub witness_text : List ℕ → Bytes
witness_text witness = join_by turn_text (codes ", ") (in_turns witness)

-- the line of the witness of a step
abbrev pub by_line : Move → AnswerLine
by_line m = answer_line m.pid (codes "BY") (witness_text m.witness)

-- a step with its witness
abbrev pub move_lines : Move → List AnswerLine
move_lines m = by_line m ∷ map of_trace m.stepped.lines

-- ---- the endings

abbrev pub has_ended : State → Bool
has_ended s = is_empty (live_processes s.processes)

-- the distinct trees of the visited states without live processes
abbrev pub endings : List Found → List Tree
endings found = elements_with_new_keys tree_numbers [] (map (λ f. named_tree f.state.tree) (filter (λ f. has_ended f.state) found))

abbrev pub completeness_text : Bool → Bytes
completeness_text true = codes "complete"
completeness_text false = codes "not complete"

abbrev pub states_line : ℕ → Bool → AnswerLine
states_line count complete = answer_line 0 (codes "DONE") (decimal count ++ codes " states, " ++ completeness_text complete)

abbrev pub endings_line : ℕ → AnswerLine
endings_line count = answer_line 0 (codes "DONE") (decimal count ++ codes " endings")

module _ (program_of : Bytes → Option Program) (limit : ℕ) where
  -- the number of visited states, and whether the search is complete
  abbrev pub done_line : State → AnswerLine
  done_line s = states_line (length (states_found program_of limit s)) (is_complete program_of limit s)

  unfoldable pub explore_lines : State → List AnswerLine
  explore_lines s =
      flat_map move_lines (reported_moves (moves program_of limit s))
      ++ done_line s ∷ endings_line (length (endings (states_found program_of limit s))) ∷ []
