-- The reduced search: it identifies states that are equal up to the numbers of open files and for dead variables, and
-- after a step of a process on registers, the next step is of the same process. Its laws.
use Rattle.std.specs.Prelude.{◌≡◌, ◌≢◌, ℕ, ◌≤◌, ◌==◌, Bool, ◌||◌, ◌&&◌, if◌then◌else◌, IsTrue, IsFalse, List, [], ◌∷◌, ◌++◌, length, flat_map, filter, bytes_eq, Contains, Option, is_some}
use Rattle.std.specs.List.{AllByRecursion, list_any, list_all}
use Rattle.pv_model.specs.Machine.{Found, Move, found_by, is_complete, move_text, states_found, has_ended, endings, same_state, Bytes, Program, State, process_at, step, run, Tree}
use Rattle.pv_model.specs.Answers.Explore.{reported_moves}
use Rattle.pv_model.specs.Answers.Explore
use Rattle.pv_model.specs.Answers.Search
use Rattle.pv_model.specs.Step.{final_tree}
use Rattle.pv_laws_states.specs.States.{EncodesPrograms, IsValid}
use Rattle.pv_laws_answers.specs.Search.{IsSearchable, text_of_step, reported, CanHappen, EndsIn}
use Rattle.pv_laws_answers.specs.Witnesses.{AreSteps, IsWitness, IsEarlierWitness, EachToLater}
use Rattle.pv_laws_classes.specs.Canonical.{canonical}
use Rattle.pv_laws_classes.specs.Liveness.{is_live_below, cleared}
use Rattle.pv_laws_classes.specs.Together.{is_step_on_registers}

-- ---- classes of states

-- the state with zero in dead variables, whose open files have the numbers 0, 1, 2 .. in the order of their first reference
unfoldable pub representative : State → State
representative s = canonical (cleared is_live_below s)

-- ---- steps on registers

-- the process that must make the step after a step of a process, or 0 if each process may
abbrev pub bound_by : State → ℕ → ℕ
bound_by s pid = if is_step_on_registers s pid then pid else 0

abbrev pub may_step : ℕ → ℕ → Bool
may_step bound pid = bound == 0 || bound == pid

module _ (program_of : Bytes → Option Program) where
  -- the process that must make the step after a schedule, or 0 if each process may
  abbrev pub bound_after : State → List ℕ → ℕ
  bound_after s [] = 0
  bound_after s (pid ∷ []) = bound_by s pid
  bound_after s (pid ∷ next ∷ pids) = bound_after (step program_of s pid).after (next ∷ pids)

  -- all steps are of live processes, and each process makes its steps on registers directly before its next step
  abbrev pub AreReducedFrom : ℕ → List ℕ → State → Type 0
  AreReducedFrom bound [] s = Unit {0}
  AreReducedFrom bound (pid ∷ pids) s =
      IsTrue (may_step bound pid) × IsTrue (is_some (process_at s pid)) × AreReducedFrom (bound_by s pid) pids (step program_of s pid).after

  abbrev pub AreReduced : List ℕ → State → Type 0
  AreReduced pids s = AreReducedFrom 0 pids s

-- ---- the search

module _ (program_of : Bytes → Option Program) (s : State) where
  abbrev pub bound_at : Found → ℕ
  bound_at f = bound_after program_of s f.witness

  -- the steps that the search makes from a visited state
  abbrev pub reduced_moves_of : Found → List Move
  reduced_moves_of f = filter (λ m. may_step (bound_at f) m.pid) (Explore.moves_of program_of f)

  abbrev pub are_identified : Found → Found → Bool
  are_identified f g = (bound_at f == bound_at g) && same_state (representative f.state) (representative g.state)

  -- whether the state after a step is identified with a visited one
  abbrev pub is_identified : Move → List Found → Bool
  is_identified m found = list_any (λ f. are_identified f (found_by m)) found

  module _ (limit : ℕ) where
    -- the visited states, in breadth-first order, up to the limit
    unfoldable pub reduced_found : List Found
    reduced_found = Search.search reduced_moves_of found_by is_identified limit (record { witness = []; state = s })

    -- the steps from all visited states, in the order of the search
    abbrev pub reduced_moves : List Move
    reduced_moves = flat_map reduced_moves_of reduced_found

    -- whether the state after every step is identified with a visited one
    abbrev pub is_reduced_complete : Bool
    is_reduced_complete = list_all (λ m. is_identified m reduced_found) reduced_moves

    -- the steps whose text no earlier step has
    abbrev pub reduced_reported : List Move
    reduced_reported = reported_moves reduced_moves

-- ---- schedules

-- a reduced schedule that is no longer, and whose last step has the outcome and the lines of the last step of a schedule
pub record EndsReduced (program_of : Bytes → Option Program) (s : State) (pids : List ℕ) (pid : ℕ) : Type 0 where
  pub before : List ℕ
  pub reduced : AreReduced program_of (before ++ pid ∷ []) s
  pub outcome : (step program_of (run program_of before s).final pid).outcome ≡ (step program_of (run program_of pids s).final pid).outcome
  pub lines : (step program_of (run program_of before s).final pid).lines ≡ (step program_of (run program_of pids s).final pid).lines
  pub no_longer : length (before ++ pid ∷ []) ≤ length (pids ++ pid ∷ [])

-- each step that is not on registers is the last of such a schedule
abbrev pub ReducedSchedulesReachEach : Type 0
ReducedSchedulesReachEach =
    (program_of : Bytes → Option Program) (s : State) (pids : List ℕ) (pid : ℕ) → EncodesPrograms program_of → IsValid s → AreSteps program_of (pids ++ pid ∷ []) s
    → IsFalse (is_step_on_registers (run program_of pids s).final pid) → EndsReduced program_of s pids pid

-- a reduced schedule with the final state of a schedule
pub record HasReducedForm (program_of : Bytes → Option Program) (s : State) (pids : List ℕ) : Type 0 where
  pub form : List ℕ
  pub reduced : AreReduced program_of form s
  pub count : length form ≡ length pids
  pub final : (run program_of form s).final ≡ (run program_of pids s).final

-- each schedule that leaves no live process has one
abbrev pub ReducedSchedulesReachEndings : Type 0
ReducedSchedulesReachEndings =
    (program_of : Bytes → Option Program) (s : State) (pids : List ℕ) → EncodesPrograms program_of → IsValid s → AreSteps program_of pids s
    → IsTrue (has_ended (run program_of pids s).final) → HasReducedForm program_of s pids

-- ---- the visited states

abbrev pub AreNotIdentified : (Bytes → Option Program) → State → Found → Found → Type 0
AreNotIdentified program_of s f g = bound_at program_of s f ≡ bound_at program_of s g → representative f.state ≡ representative g.state → ⊥

-- each visited state is reached by its witness, a reduced schedule; no two are identified, the witnesses ascend, and the
-- limit is observed
pub record FoundReduced (program_of : Bytes → Option Program) (limit : ℕ) (s : State) : Type 0 where
  pub reached : AllByRecursion (λ f. IsWitness program_of s f.witness f.state) (reduced_found program_of s limit)
  pub are_reduced : AllByRecursion (λ f. AreReduced program_of f.witness s) (reduced_found program_of s limit)
  pub once : EachToLater (AreNotIdentified program_of s) (reduced_found program_of s limit)
  pub in_order : EachToLater (λ f g. IsEarlierWitness f.witness g.witness) (reduced_found program_of s limit)
  pub few : length (reduced_found program_of s limit) ≤ limit

abbrev pub ReducedStatesAreReached : Type 0
ReducedStatesAreReached = (program_of : Bytes → Option Program) (limit : ℕ) (s : State) → IsSearchable program_of limit s → FoundReduced program_of limit s

-- ---- the reported steps

-- if the search is complete, it reports the text of each step of a live process in each schedule
abbrev pub EachTextIsReportedReduced : Type 0
EachTextIsReportedReduced =
    (program_of : Bytes → Option Program) (limit : ℕ) (s : State) (pids : List ℕ) (pid : ℕ) → IsSearchable program_of limit s → IsTrue (is_reduced_complete program_of s limit)
    → AreSteps program_of (pids ++ pid ∷ []) s → text_of_step program_of (run program_of pids s).final pid ≢ []
    → IsTrue (list_any (λ m. bytes_eq (move_text m) (text_of_step program_of (run program_of pids s).final pid)) (reduced_reported program_of s limit))

-- no schedule of live processes with the same text is shorter than the reported witness
abbrev pub HasShortestWitness : (Bytes → Option Program) → State → Move → Type 0
HasShortestWitness program_of s m =
    (pids : List ℕ) (pid : ℕ) → AreSteps program_of (pids ++ pid ∷ []) s → text_of_step program_of (run program_of pids s).final pid ≡ move_text m
    → length m.witness ≤ length (pids ++ pid ∷ [])

-- the reported steps can happen, each text is reported once, the witnesses ascend, and each is a shortest one for its
-- text among all schedules, whether the search is complete or not
pub record StepsReportedReduced (program_of : Bytes → Option Program) (limit : ℕ) (s : State) : Type 0 where
  pub happen : AllByRecursion (CanHappen program_of s) (reduced_reported program_of s limit)
  pub once : EachToLater (λ m n. move_text m ≢ move_text n) (reduced_reported program_of s limit)
  pub in_order : EachToLater (λ m n. IsEarlierWitness m.witness n.witness) (reduced_reported program_of s limit)
  pub shortest : AllByRecursion (HasShortestWitness program_of s) (reduced_reported program_of s limit)

abbrev pub ReducedWitnessesAreShortest : Type 0
ReducedWitnessesAreShortest = (program_of : Bytes → Option Program) (limit : ℕ) (s : State) → IsSearchable program_of limit s → StepsReportedReduced program_of limit s

-- ---- the endings

-- each counted tree is left by a schedule after which no process is live, and these trees are distinct
pub record EndingsReduced (program_of : Bytes → Option Program) (limit : ℕ) (s : State) : Type 0 where
  pub happen : AllByRecursion (EndsIn program_of s) (endings (reduced_found program_of s limit))
  pub once : EachToLater (λ t u. t ≢ u) (endings (reduced_found program_of s limit))

abbrev pub ReducedEndingsHappen : Type 0
ReducedEndingsHappen = (program_of : Bytes → Option Program) (limit : ℕ) (s : State) → IsSearchable program_of limit s → EndingsReduced program_of limit s

-- if the search is complete, each schedule that leaves no process live leaves one of them
abbrev pub ReducedEndingsAreAll : Type 0
ReducedEndingsAreAll =
    (program_of : Bytes → Option Program) (limit : ℕ) (s : State) (pids : List ℕ) → IsSearchable program_of limit s → IsTrue (is_reduced_complete program_of s limit)
    → AreSteps program_of pids s → IsTrue (has_ended (run program_of pids s).final) → Contains (endings (reduced_found program_of s limit)) (final_tree program_of pids s)

-- ---- both searches

-- a step with the same text and a witness of the same length
pub record HasEqual (ms : List Move) (m : Move) : Type 0 where
  pub equal : Move
  pub within : Contains ms equal
  pub text : move_text equal ≡ move_text m
  pub count : length equal.witness ≡ length m.witness

-- two lists of steps have the same texts, and witnesses of the same lengths
pub record HaveSameTexts (ms ns : List Move) : Type 0 where
  pub there : AllByRecursion (HasEqual ns) ms
  pub back : AllByRecursion (HasEqual ms) ns
  pub count : length ms ≡ length ns

-- if both searches are complete, whatever their limits, both report the same texts, with witnesses of the same lengths
abbrev pub ReducedReportsAreSame : Type 0
ReducedReportsAreSame =
    (program_of : Bytes → Option Program) (limit other : ℕ) (s : State) → IsSearchable program_of limit s → IsSearchable program_of other s
    → IsTrue (is_complete program_of limit s) → IsTrue (is_reduced_complete program_of s other)
    → HaveSameTexts (reduced_reported program_of s other) (reported program_of limit s)

-- two lists of trees have the same elements, and are of the same length
pub record HaveSameTrees (ts us : List Tree) : Type 0 where
  pub there : AllByRecursion (Contains us) ts
  pub back : AllByRecursion (Contains ts) us
  pub count : length ts ≡ length us

-- and both count the same endings
abbrev pub ReducedEndingsAreSame : Type 0
ReducedEndingsAreSame =
    (program_of : Bytes → Option Program) (limit other : ℕ) (s : State) → IsSearchable program_of limit s → IsSearchable program_of other s
    → IsTrue (is_complete program_of limit s) → IsTrue (is_reduced_complete program_of s other)
    → HaveSameTrees (endings (reduced_found program_of s other)) (endings (states_found program_of limit s))
