-- Laws of the state graph: the paths along its lines STEP are the runs, with the lines of `explain`.
use Rattle.std.specs.Prelude.{◌≡◌, ℕ, ◌<◌, ◌^◌, Bool, not, ◌||◌, IsTrue, IsFalse, List, [], ◌∷◌, ◌++◌, filter, codes, bytes_eq, Option}
use Rattle.std.specs.Fmt.{decimal}
use Rattle.std.specs.List.{list_any}
use Rattle.pv_model.specs.Machine.{explained_step, Found, states_found, is_complete, graph_lines, AnswerLine, answer_line, state_lines, Setting, Bytes, Program, State, step, run}
use Rattle.pv_model.specs.Answers.Explain.{setting_text, explain_lines}
use Rattle.pv_model.specs.Answers.Explore.{is_found}
use Rattle.pv_model.specs.Answers.Graph.{unreported}
use Rattle.pv_laws_answers.specs.Search.{IsSearchable}
use Rattle.pv_laws_answers.specs.Witnesses.{AreSteps}

-- ---- parsing the lines of a graph

abbrev pub has_word : Bytes → AnswerLine → Bool
has_word word l = bytes_eq l.word word

-- whether a line begins a state or a step, or is the last
abbrev pub begins_state : AnswerLine → Bool
begins_state l = has_word (codes "AT") l

abbrev pub begins_step : AnswerLine → Bool
begins_step l = has_word (codes "STEP") l

abbrev pub is_last : AnswerLine → Bool
is_last l = has_word (codes "DONE") l

-- whether a state ends before a line
abbrev pub ends_state : AnswerLine → Bool
ends_state l = begins_state l || is_last l

-- whether a step ends before a line
abbrev pub ends_step : AnswerLine → Bool
ends_step l = begins_step l || ends_state l

-- the state with a number has a line STEP of a process with a text, followed by exactly these lines
pub record HasStepLines (ls : List AnswerLine) (number : Bytes) (pid : ℕ) (leads : Bytes) (reported : List AnswerLine) : Type 0 where
  pub before : List AnswerLine
  pub inside : List AnswerLine
  pub end_line : AnswerLine
  pub rest : List AnswerLine
  pub parts : ls ≡ before ++ (answer_line 0 (codes "AT") number ∷ inside ++ (answer_line pid (codes "STEP") leads ∷ reported ++ (end_line ∷ rest)))
  pub one_state : IsFalse (list_any ends_state inside)
  pub one_step : IsFalse (list_any ends_step reported)
  pub ends : IsTrue (ends_step end_line)

-- the state with a number has the lines of `state`
pub record HasStateLines (ls : List AnswerLine) (number : Bytes) (s : State) : Type 0 where
  pub before : List AnswerLine
  pub rest : List AnswerLine
  pub parts : ls ≡ before ++ (answer_line 0 (codes "AT") number ∷ state_lines s ++ rest)

-- a path along lines STEP, one for each process of a list, from one numbered state to another, with the lines of these
-- steps
abbrev pub IsAlong : List AnswerLine → Bytes → List ℕ → Bytes → List AnswerLine → Type 0
IsAlong ls number [] last reported = (last ≡ number) × (reported ≡ [])
IsAlong ls number (pid ∷ pids) last reported =
    (next_number : Bytes) × (now : List AnswerLine) × (later : List AnswerLine) × HasStepLines ls number pid (codes "to " ++ next_number) now
    × IsAlong ls next_number pids last later × (reported ≡ now ++ later)

-- ---- paths are runs

-- the lines of a run with each step explained, without the places where entries were set
abbrev pub explained_run : (Bytes → Option Program) → List ℕ → State → List AnswerLine
explained_run program_of [] s = []
explained_run program_of (pid ∷ pids) s = explained_step program_of unreported s pid ++ explained_run program_of pids (step program_of s pid).after

-- a path is a run of live processes, has the lines of that run explained, and ends at its final state
pub record IsRunAlong (program_of : Bytes → Option Program) (ls : List AnswerLine) (s : State) (pids : List ℕ) (last : Bytes) (reported : List AnswerLine) : Type 0 where
  pub steps : AreSteps program_of pids s
  pub lines : reported ≡ explained_run program_of pids s
  pub state : HasStateLines ls last (run program_of pids s).final

-- each path along a graph's lines from its first state is a run
abbrev pub WitnessesAreRuns : Type 0
WitnessesAreRuns =
    (program_of : Bytes → Option Program) (limit : ℕ) (trees : Bool) (s : State) (pids : List ℕ) (last : Bytes) (reported : List AnswerLine) → IsSearchable program_of limit s → limit < 2 ^ 64
    → IsAlong (graph_lines program_of limit trees s) (decimal 0) pids last reported → IsRunAlong program_of (graph_lines program_of limit trees s) s pids last reported

-- all states of a run are in the graph
abbrev pub AllStatesAreVisited : (Bytes → Option Program) → List Found → List ℕ → State → Type 0
AllStatesAreVisited program_of found [] s = IsTrue (is_found s found)
AllStatesAreVisited program_of found (pid ∷ pids) s = IsTrue (is_found s found) × AllStatesAreVisited program_of found pids (step program_of s pid).after

-- a run is such a path, with its lines explained
pub record IsWitnessAlong (program_of : Bytes → Option Program) (ls : List AnswerLine) (s : State) (pids : List ℕ) : Type 0 where
  pub last : Bytes
  pub along : IsAlong ls (decimal 0) pids last (explained_run program_of pids s)

-- each run of live processes whose states are all in the graph is such a path
abbrev pub RunsAreWitnesses : Type 0
RunsAreWitnesses =
    (program_of : Bytes → Option Program) (limit : ℕ) (trees : Bool) (s : State) (pids : List ℕ) → IsSearchable program_of limit s → AreSteps program_of pids s
    → AllStatesAreVisited program_of (states_found program_of limit s) pids s → IsWitnessAlong program_of (graph_lines program_of limit trees s) s pids

-- if the search is complete, each run of live processes is such a path
abbrev pub AllRunsAreWitnesses : Type 0
AllRunsAreWitnesses =
    (program_of : Bytes → Option Program) (limit : ℕ) (trees : Bool) (s : State) (pids : List ℕ) → IsSearchable program_of limit s → IsTrue (is_complete program_of limit s)
    → AreSteps program_of pids s → IsWitnessAlong program_of (graph_lines program_of limit trees s) s pids

-- ---- with the lines of `explain`

-- the lines of `explain` that a path does not have
abbrev pub is_added_line : AnswerLine → Bool
is_added_line l = begins_step l || (has_word (codes "PROC") l || has_word (codes "NEXT") l)

-- two lists of lines are the same, except that some of the second also report where an entry was set
abbrev pub AreSameExceptSettings : (Bytes → Option Program) → List AnswerLine → List AnswerLine → Type 0
AreSameExceptSettings program_of [] [] = Unit {0}
AreSameExceptSettings program_of [] (m ∷ ms) = ⊥
AreSameExceptSettings program_of (l ∷ ls) [] = ⊥
AreSameExceptSettings program_of (l ∷ ls) (m ∷ ms) =
    ((setting : Option Setting) × (m ≡ answer_line l.pid l.word (l.text ++ setting_text program_of setting))) × AreSameExceptSettings program_of ls ms

-- the lines on a path are those of `explain`, without its lines STEP, PROC and NEXT and the places where entries were
-- set
abbrev pub WitnessesAreExplained : Type 0
WitnessesAreExplained =
    (program_of : Bytes → Option Program) (pids : List ℕ) (s : State)
    → AreSameExceptSettings program_of (explained_run program_of pids s) (filter (λ l. not (is_added_line l)) (explain_lines program_of pids s))
