-- Observations of the steps of a search: items of any type, each reported once, with the first step that has it.
use Rattle.std.specs.Prelude.{ℕ, Bool, true, false, if◌then◌else◌, List, [], ◌∷◌, map, flat_map, filter, bytes_eq, Option, None, Some}
use Rattle.pv_model.specs.declared.call.Call.{Call}
use Rattle.pv_model.specs.declared.call.Call.TheVariants.{Pledge, Unveil}
use Rattle.pv_model.specs.Answers.Explore.{Found, Move, states_found, moves_of, elements_with_new_keys, by_line}
use Rattle.pv_model.specs.Answers.Lines.{AnswerLine}
use Rattle.pv_model.specs.Answers.Numbers.{Numbers}
use Rattle.pv_model.specs.Bytes.{Bytes, is_empty}
use Rattle.pv_model.specs.Program.{Next, inside, calls_for, next}
use Rattle.pv_model.specs.State.{Program, Process, State, process_at}
use Rattle.pv_model.specs.Step.{Stepped}
use Rattle.pv_model.specs.Trace.{Line, trace_bytes}

-- an observer: the items of a step, given the state before it, its process and its result
abbrev pub Observer : Type 0 → Type 0
Observer X = State → ℕ → Stepped → List X

-- an item that is observed of a step
pub record Observation (X : Type 0) : Type 0 where
  pub move : Move
  pub item : X

abbrev pub observed : {X : Type 0} → Move → X → Observation X
observed m x = record { move = m; item = x }

module _ {X : Type 0} (observe : Observer X) (program_of : Bytes → Option Program) where
  -- the observations of the steps from a visited state
  abbrev pub observations_at : Found → List (Observation X)
  observations_at f = flat_map (λ m. map (observed m) (observe f.state m.pid m.stepped)) (moves_of program_of f)

  -- the observations of the steps from all visited states, in the order of the search
  abbrev pub observations : ℕ → State → List (Observation X)
  observations limit s = flat_map observations_at (states_found program_of limit s)

-- the observations whose item no earlier one has; items are compared by a key
abbrev pub first_observations : {X : Type 0} → (X → Numbers) → List (Observation X) → List (Observation X)
first_observations key os = elements_with_new_keys (λ o. key o.item) [] os

-- an observation with its witness
abbrev pub observation_lines : {X : Type 0} → (X → List AnswerLine) → Observation X → List AnswerLine
observation_lines lines o = by_line o.move ∷ lines o.item

-- ---- observers

-- the observer of `explore`: the lines of a step, if it has any
abbrev pub lines_observed : Observer (List Line)
lines_observed s pid now = if is_empty (trace_bytes now.lines) then [] else now.lines ∷ []

-- the items of a call, given the state before it, its process and the result of the step
abbrev pub CallObserver : Type 0 → Type 0
CallObserver X = State → ℕ → Process → Call → Stepped → List X

module _ {X : Type 0} (observe : CallObserver X) (s : State) (pid : ℕ) where
  abbrev pub of_next : Stepped → Process → Next → List X
  of_next now p (inside q) = []
  of_next now p (calls_for call) = observe s pid p call now

  abbrev pub of_process : Stepped → Option Process → List X
  of_process now None = []
  of_process now (Some p) = of_next now p (next p)

  -- the observer of the steps that are calls
  abbrev pub of_calls : Stepped → List X
  of_calls now = of_process now (process_at s pid)

-- ---- groups

module _ {X : Type 0} (key : X → Numbers) where
  -- an element with all elements whose key is equal to its own
  abbrev pub with_equal_key : List X → X → X × List X
  with_equal_key xs x = (x, filter (λ y. bytes_eq (key y) (key x)) xs)

  -- the elements grouped by their keys, in the order of the first element of each group
  abbrev pub groups : List X → List (X × List X)
  groups xs = map (with_equal_key xs) (elements_with_new_keys key [] xs)

-- ---- calls that change the rights of a process

abbrev pub is_pledge : Call → Bool
is_pledge (Pledge promises execpromises) = true
is_pledge _ = false

abbrev pub is_unveil : Call → Bool
is_unveil (Unveil path permissions) = true
is_unveil _ = false
