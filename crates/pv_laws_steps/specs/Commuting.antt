-- Steps of different processes that commute.
use Rattle.std.specs.Prelude.{◌≡◌, ◌≢◌, ℕ, Bool, true, false, IsTrue, List, ◌∷◌, ◌++◌, Option, None, Some}
use Rattle.pv_model.specs.declared.call.Call.{Call}
use Rattle.pv_model.specs.declared.call.Call.TheVariants.{GetPid, GetPpid, Pledge, Unveil, Stat, Lstat, Readlink, Fstat}
use Rattle.pv_model.specs.declared.errno.Errno.{Errno}
use Rattle.pv_model.specs.declared.outcome.Cause.{Cause}
use Rattle.pv_model.specs.declared.outcome.Outcome.TheVariants.{Failed, Killed, Blocked}
use Rattle.pv_model.specs.declared.promise.Promise.{Promise}
use Rattle.pv_model.specs.Machine.{Bytes, needs, Next, inside, calls_for, next, is_lenient, missing_promise, Program, Process, State, process_at, with_process, Stepped, step, run, Line}
use Rattle.pv_laws_states.specs.States.{EncodesPrograms, IsValid}
use Rattle.pv_laws_steps.specs.Beside.{HasSameReferences}

pub record HaveSameAnswer (a b : Stepped) : Type 0 where
  pub outcome : b.outcome ≡ a.outcome
  pub lines : b.lines ≡ a.lines

-- the steps of two processes commute: in either order, each has the same outcome and lines, and the final state is the
-- same
pub record Commute (program_of : Bytes → Option Program) (s : State) (j k : ℕ) : Type 0 where
  pub first : HaveSameAnswer (step program_of s j) (step program_of (step program_of s k).after j)
  pub second : HaveSameAnswer (step program_of s k) (step program_of (step program_of s j).after k)
  pub after : (step program_of (step program_of s k).after j).after ≡ (step program_of (step program_of s j).after k).after

-- a step changes only the inside of its own process: no node, no open file, no other process, and no reference
pub record StaysInside (program_of : Bytes → Option Program) (s : State) (pid : ℕ) : Type 0 where
  pub before : Process
  pub following : Process
  pub at : process_at s pid ≡ Some before
  pub alike : HasSameReferences before following
  pub parent : following.parent ≡ before.parent
  pub after : (step program_of s pid).after ≡ with_process s pid following

-- two such steps commute
abbrev pub InsideStepsCommute : Type 0
InsideStepsCommute =
    (program_of : Bytes → Option Program) (s : State) (j k : ℕ) → IsValid s → j ≢ k → StaysInside program_of s j → StaysInside program_of s k → Commute program_of s j k

-- the calls that change at most the registers, the buffer and the promises of their process
abbrev pub only_queries : Call → Bool
only_queries GetPid = true
only_queries GetPpid = true
only_queries (Pledge promises execpromises) = true
only_queries (Stat path) = true
only_queries (Lstat path) = true
only_queries (Readlink path) = true
only_queries (Fstat d) = true
only_queries call = false

abbrev pub changes_own_inside : Next → Bool
changes_own_inside (inside q) = true
changes_own_inside (calls_for call) = only_queries call

-- a step changes only the inside of its process if it is an instruction on registers, or such a call that does not
-- kill; and if its call is refused or waits
pub record IsInsideIf (program_of : Bytes → Option Program) (s : State) (pid : ℕ) (p : Process) : Type 0 where
  pub asks : IsTrue (changes_own_inside (next p)) → ((a : Promise) → (step program_of s pid).outcome ≢ Killed a) → StaysInside program_of s pid
  pub refused : (errno : Errno) (cause : Cause) → (step program_of s pid).outcome ≡ Failed errno cause → StaysInside program_of s pid
  pub waits : (step program_of s pid).outcome ≡ Blocked → StaysInside program_of s pid

abbrev pub StepsStayInside : Type 0
StepsStayInside = (program_of : Bytes → Option Program) (s : State) (pid : ℕ) (p : Process) → IsValid s → process_at s pid ≡ Some p → IsInsideIf program_of s pid p

-- the calls that depend on and change only the inside of their process
abbrev pub depends_on_own_process : Call → Bool
depends_on_own_process GetPid = true
depends_on_own_process (Pledge promises execpromises) = true
depends_on_own_process (Unveil None None) = true
depends_on_own_process (Unveil None (Some text)) = true
depends_on_own_process (Unveil (Some path) None) = true
depends_on_own_process call = false

abbrev pub IsOwnCallIfAllowed : Process → Call → Option Promise → Type 0
IsOwnCallIfAllowed p call None = IsTrue (depends_on_own_process call)
IsOwnCallIfAllowed p call (Some a) = IsTrue (is_lenient p.promises)

-- a step that depends only on its own process: an instruction on registers, such a call, or a call that is refused for
-- a missing promise
abbrev pub IsOwnStepAlone : Process → Next → Type 0
IsOwnStepAlone p (inside q) = Unit {0}
IsOwnStepAlone p (calls_for call) = IsOwnCallIfAllowed p call (missing_promise p.promises (needs call))

-- such a step commutes with any step of another process
abbrev pub IndependentStepsCommute : Type 0
IndependentStepsCommute =
    (program_of : Bytes → Option Program) → EncodesPrograms program_of → (s : State) (j k : ℕ) (p : Process) → IsValid s → j ≢ k → process_at s k ≡ Some p → IsOwnStepAlone p (next p)
    → Commute program_of s j k

-- two runs that differ in the order of their first two steps: the lines of these steps change places, and everything
-- else is the same
pub record RunsDifferInOrder (program_of : Bytes → Option Program) (s : State) (j k : ℕ) (pids : List ℕ) : Type 0 where
  pub rest : List Line
  pub one : (run program_of (j ∷ k ∷ pids) s).lines ≡ (step program_of s j).lines ++ ((step program_of s k).lines ++ rest)
  pub other : (run program_of (k ∷ j ∷ pids) s).lines ≡ (step program_of s k).lines ++ ((step program_of s j).lines ++ rest)
  pub final : (run program_of (k ∷ j ∷ pids) s).final ≡ (run program_of (j ∷ k ∷ pids) s).final

-- if two steps commute, the runs in which they change places are such runs
abbrev pub RunsReorder : Type 0
RunsReorder = (program_of : Bytes → Option Program) (s : State) (j k : ℕ) (pids : List ℕ) → Commute program_of s j k → RunsDifferInOrder program_of s j k pids
