-- Laws of the search of all schedules.
use Rattle.std.specs.Prelude.{◌≡◌, ◌≢◌, ◌↔◌, ℕ, ◌≤◌, IsTrue, List, [], ◌∷◌, ◌++◌, length, bytes_eq, Contains, Option, is_some}
use Rattle.std.specs.List.{AllByRecursion, list_any}
use Rattle.pv_model.specs.Machine.{Move, states_found, is_complete, move_text, has_ended, endings, same_state, Bytes, Program, State, process_at, step, run, trace_bytes, Tree}
use Rattle.pv_model.specs.Answers.Explore.{is_found, moves, reported_moves}
use Rattle.pv_model.specs.Step.{final_tree}
use Rattle.pv_laws_states.specs.States.{EncodesPrograms, IsValid}
use Rattle.pv_laws_answers.specs.Witnesses.{AreSteps, IsWitness, IsEarlierWitness, IsNoLaterWitness, EachToLater}

-- the search identifies two states if and only if they are equal
abbrev pub StatesAreDistinguished : Type 0
StatesAreDistinguished = (s other : State) → IsTrue (same_state s other) ↔ (s ≡ other)

-- the premises of a search: a valid state, and room for it
pub record IsSearchable (program_of : Bytes → Option Program) (limit : ℕ) (s : State) : Type 0 where
  pub encodes : EncodesPrograms program_of
  pub whole : IsValid s
  pub room : 1 ≤ limit

-- ---- the states

-- each visited state is reached by its witness with steps of live processes; the states are distinct, the witnesses
-- ascend, and the limit is observed
pub record FoundStates (program_of : Bytes → Option Program) (limit : ℕ) (s : State) : Type 0 where
  pub reached : AllByRecursion (λ f. IsWitness program_of s f.witness f.state) (states_found program_of limit s)
  pub once : EachToLater (λ f g. f.state ≢ g.state) (states_found program_of limit s)
  pub in_order : EachToLater (λ f g. IsEarlierWitness f.witness g.witness) (states_found program_of limit s)
  pub few : length (states_found program_of limit s) ≤ limit

abbrev pub StatesAreReached : Type 0
StatesAreReached = (program_of : Bytes → Option Program) (limit : ℕ) (s : State) → IsSearchable program_of limit s → FoundStates program_of limit s

-- if the search is complete, every schedule ends in a visited state
abbrev pub CompleteVisitsAll : Type 0
CompleteVisitsAll =
    (program_of : Bytes → Option Program) (limit : ℕ) (s : State) (pids : List ℕ) → IsSearchable program_of limit s → IsTrue (is_complete program_of limit s)
    → IsTrue (is_found (run program_of pids s).final (states_found program_of limit s))

-- ---- the reported steps

abbrev pub text_of_step : (Bytes → Option Program) → State → ℕ → Bytes
text_of_step program_of s pid = trace_bytes (step program_of s pid).lines

abbrev pub reported : (Bytes → Option Program) → ℕ → State → List Move
reported program_of limit s = reported_moves (moves program_of limit s)

-- if the search is complete, it reports the text of each step of a live process in each schedule
abbrev pub EachTextIsReported : Type 0
EachTextIsReported =
    (program_of : Bytes → Option Program) (limit : ℕ) (s : State) (pids : List ℕ) (pid : ℕ) → IsSearchable program_of limit s → IsTrue (is_complete program_of limit s)
    → IsTrue (is_some (process_at (run program_of pids s).final pid)) → text_of_step program_of (run program_of pids s).final pid ≢ []
    → IsTrue (list_any (λ m. bytes_eq (move_text m) (text_of_step program_of (run program_of pids s).final pid)) (reported program_of limit s))

-- a step with a text is the last of a schedule of live processes
pub record CanHappen (program_of : Bytes → Option Program) (s : State) (m : Move) : Type 0 where
  pub before : List ℕ
  pub witness : m.witness ≡ before ++ m.pid ∷ []
  pub steps : AreSteps program_of m.witness s
  pub last : m.stepped ≡ step program_of (run program_of before s).final m.pid
  pub text : move_text m ≢ []

-- no schedule of live processes with the same text comes before the reported witness
abbrev pub HasLeastWitness : (Bytes → Option Program) → State → Move → Type 0
HasLeastWitness program_of s m =
    (pids : List ℕ) (pid : ℕ) → AreSteps program_of (pids ++ pid ∷ []) s → text_of_step program_of (run program_of pids s).final pid ≡ move_text m
    → IsNoLaterWitness m.witness (pids ++ pid ∷ [])

-- the reported steps can happen, each text is reported once, the witnesses ascend, and each is the least for its text,
-- whether the search is complete or not
pub record ReportedSteps (program_of : Bytes → Option Program) (limit : ℕ) (s : State) : Type 0 where
  pub happen : AllByRecursion (CanHappen program_of s) (reported program_of limit s)
  pub once : EachToLater (λ m n. move_text m ≢ move_text n) (reported program_of limit s)
  pub in_order : EachToLater (λ m n. IsEarlierWitness m.witness n.witness) (reported program_of limit s)
  pub least : AllByRecursion (HasLeastWitness program_of s) (reported program_of limit s)

abbrev pub WitnessesAreLeast : Type 0
WitnessesAreLeast = (program_of : Bytes → Option Program) (limit : ℕ) (s : State) → IsSearchable program_of limit s → ReportedSteps program_of limit s

-- ---- the endings

-- a schedule of live processes after which none is live, and the tree that it leaves
pub record EndsIn (program_of : Bytes → Option Program) (s : State) (t : Tree) : Type 0 where
  pub pids : List ℕ
  pub steps : AreSteps program_of pids s
  pub ended : IsTrue (has_ended (run program_of pids s).final)
  pub tree : final_tree program_of pids s ≡ t

-- each counted tree is left by such a schedule, and these trees are distinct
pub record Endings (program_of : Bytes → Option Program) (limit : ℕ) (s : State) : Type 0 where
  pub happen : AllByRecursion (EndsIn program_of s) (endings (states_found program_of limit s))
  pub once : EachToLater (λ t u. t ≢ u) (endings (states_found program_of limit s))

abbrev pub EndingsHappen : Type 0
EndingsHappen = (program_of : Bytes → Option Program) (limit : ℕ) (s : State) → IsSearchable program_of limit s → Endings program_of limit s

-- if the search is complete, each schedule that leaves no process live leaves one of them
abbrev pub EndingsAreComplete : Type 0
EndingsAreComplete =
    (program_of : Bytes → Option Program) (limit : ℕ) (s : State) (pids : List ℕ) → IsSearchable program_of limit s → IsTrue (is_complete program_of limit s)
    → IsTrue (has_ended (run program_of pids s).final) → Contains (endings (states_found program_of limit s)) (final_tree program_of pids s)
