-- The text of `compare`: whether two sandboxes of the same programs differ in a step, under any schedule.
use Rattle.std.specs.Prelude.{ℕ, Bool, true, false, not, ◌&&◌, ◌||◌, if◌then◌else◌, max, List, [], ◌∷◌, ◌++◌, map, flat_map, filter, length, codes, bytes_eq, Option, None, Some, is_some}
use Rattle.std.specs.Fmt.{decimal}
use Rattle.std.specs.List.{list_any, range_with_len}
use Rattle.pv_model.specs.Answers.Explore.{completeness_text, witness_text}
use Rattle.pv_model.specs.Answers.Lines.{AnswerLine, answer_line, of_trace}
use Rattle.pv_model.specs.Answers.Numbers.{same_state}
use Rattle.pv_model.specs.Answers.Observed.{is_pledge, is_unveil}
use Rattle.pv_model.specs.Answers.Search.{with_element, search, is_closed}
use Rattle.pv_model.specs.Bytes.{Bytes}
use Rattle.pv_model.specs.Program.{Next, inside, calls_for, next}
use Rattle.pv_model.specs.State.{Program, Process, State, process_at}
use Rattle.pv_model.specs.Step.{Stepped, step}
use Rattle.pv_model.specs.Trace.{Line, trace_bytes}

-- ---- pairs

-- a state of each image
pub record Pair : Type 0 where
  pub first : State
  pub second : State

-- a visited pair with its witness
pub record FoundPair : Type 0 where
  pub witness : List ℕ
  pub states : Pair

-- a step of a process in both states of a pair: its witness, which includes the step, the process, the pair before it,
-- and the results
pub record PairMove : Type 0 where
  pub witness : List ℕ
  pub pid : ℕ
  pub before : Pair
  pub first : Stepped
  pub second : Stepped

abbrev pub same_pair : Pair → Pair → Bool
same_pair a b = same_state a.first b.first && same_state a.second b.second

abbrev pub pair_after : PairMove → Pair
pair_after m = record { first = m.first.after; second = m.second.after }

abbrev pub pair_found_by : PairMove → FoundPair
pair_found_by m = record { witness = m.witness; states = pair_after m }

abbrev pub is_pair_found : PairMove → List FoundPair → Bool
is_pair_found m found = list_any (λ f. same_pair f.states (pair_after m)) found

abbrev pub is_live : State → ℕ → Bool
is_live s pid = is_some (process_at s pid)

-- the processes that are live in either state, by number
abbrev pub live_in_either : Pair → List ℕ
live_in_either b = filter (λ pid. is_live b.first pid || is_live b.second pid) (range_with_len 1 (max b.first.last_process b.second.last_process))

-- ---- differences

abbrev pub restrains : Next → Bool
restrains (inside q) = false
restrains (calls_for call) = is_pledge call || is_unveil call

-- whether the next step of a process is a call of pledge or unveil
abbrev pub is_restraint : Option Process → Bool
is_restraint None = false
is_restraint (Some p) = restrains (next p)

-- a step is compared unless it is a call of pledge or unveil in both states
abbrev pub is_compared : PairMove → Bool
is_compared m = not (is_restraint (process_at m.before.first m.pid) && is_restraint (process_at m.before.second m.pid))

abbrev pub differs : PairMove → Bool
differs m = is_compared m && not (bytes_eq (trace_bytes m.first.lines) (trace_bytes m.second.lines))

-- the result of a comparison, with the number of visited pairs: the first step that differs, or no such step
pub data Comparison : Type 0 where
  different : (m : PairMove) (pairs : ℕ) → Comparison
  alike : (complete : Bool) (pairs : ℕ) → Comparison

-- ---- the search

module _ (program_of : Bytes → Option Program) where
  abbrev pub pair_move : FoundPair → ℕ → PairMove
  pair_move f pid = record {
    witness = f.witness ++ pid ∷ [];
    pid = pid;
    before = f.states;
    first = step program_of f.states.first pid;
    second = step program_of f.states.second pid;
  }

  abbrev pub pair_moves : FoundPair → List PairMove
  pair_moves f = map (pair_move f) (live_in_either f.states)

  module _ (limit : ℕ) where
    -- the comparison of moves in the order of the search, with the pairs visited before them
    abbrev pub compared_from : List FoundPair → List PairMove → Comparison
    compared_from found [] = alike (is_closed pair_moves pair_found_by is_pair_found limit found) (length found)
    compared_from found (m ∷ ms) =
        if differs m then different m (length found)
        else compared_from (with_element pair_moves pair_found_by is_pair_found limit found m) ms

    -- the comparison of all steps that schedules make from two states
    unfoldable pub comparison : State → State → Comparison
    comparison s t =
        let start : FoundPair = record { witness = []; states = record { first = s; second = t } } in
        compared_from (start ∷ []) (flat_map pair_moves (search pair_moves pair_found_by is_pair_found limit start))

-- ---- the lines

abbrev pub pairs_line : ℕ → Bytes → AnswerLine
pairs_line pairs text = answer_line 0 (codes "DONE") (decimal pairs ++ codes " pairs, " ++ text)

abbrev pub side_lines : Bytes → List Line → List AnswerLine
side_lines side lines = answer_line 0 (codes "SIDE") side ∷ map of_trace lines

abbrev pub alike_text : Bool → Bytes
alike_text true = completeness_text true ++ codes ", the same"
alike_text false = completeness_text false ++ codes ", no difference found"

unfoldable pub comparison_lines : Comparison → List AnswerLine
comparison_lines (different m pairs) =
    answer_line m.pid (codes "BY") (witness_text m.witness)
    ∷ side_lines (codes "first") m.first.lines ++ side_lines (codes "second") m.second.lines
    ++ pairs_line pairs (codes "different") ∷ []
comparison_lines (alike complete pairs) = pairs_line pairs (alike_text complete) ∷ []
