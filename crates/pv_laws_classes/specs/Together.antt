-- Combined steps: the steps of a process on registers, together with its next other step.
use Rattle.std.specs.Prelude.{◌≡◌, ◌≢◌, ◌↔◌, ℕ, zero, suc, ◌<◌, ◌≤◌, Bool, true, false, if◌then◌else◌, ◌==◌, IsTrue, IsFalse, List, [], ◌∷◌, ◌++◌, length, replicate, Option, None, Some, is_some}
use Rattle.pv_model.specs.declared.outcome.Outcome.{Outcome}
use Rattle.pv_model.specs.Machine.{has_ended, Bytes, Next, inside, calls_for, next, Program, Process, State, process_at, Stepped, step, run, Line, trace_bytes}
use Rattle.pv_laws_states.specs.States.{EncodesPrograms, IsValid}
use Rattle.pv_laws_answers.specs.Search.{text_of_step}
use Rattle.pv_laws_answers.specs.Witnesses.{AreSteps}

-- ---- steps on registers

abbrev pub is_next_inside : Next → Bool
is_next_inside (inside q) = true
is_next_inside (calls_for call) = false

abbrev pub is_inside_next : Option Process → Bool
is_inside_next None = false
is_inside_next (Some p) = is_next_inside (next p)

-- whether the next step of a process is an instruction on registers
abbrev pub is_step_on_registers : State → ℕ → Bool
is_step_on_registers s pid = is_inside_next (process_at s pid)

-- a step has no lines if and only if it is on registers
abbrev pub RegisterStepsAreSilent : Type 0
RegisterStepsAreSilent = (program_of : Bytes → Option Program) (s : State) (pid : ℕ) → IsTrue (is_step_on_registers s pid) ↔ ((step program_of s pid).lines ≡ [])

-- a step that is not on registers: its process, outcome and lines
pub record StepResult : Type 0 where
  pub pid : ℕ
  pub outcome : Outcome
  pub lines : List Line

abbrev pub step_result : ℕ → Stepped → StepResult
step_result pid now = record { pid = pid; outcome = now.outcome; lines = now.lines }

-- ---- schedules whose steps on registers are joined to other steps

-- a turn: a process, with the number of its steps on registers before one step that is not
abbrev pub CombinedTurn : Type 0
CombinedTurn = ℕ × ℕ

abbrev pub steps_of_turns : List CombinedTurn → List ℕ
steps_of_turns [] = []
steps_of_turns (turn ∷ turns) = replicate (suc turn.1) turn.0 ++ steps_of_turns turns

-- the number of steps of a process in a schedule
unfoldable pub count_of_process : ℕ → List ℕ → ℕ
count_of_process pid [] = 0
count_of_process pid (other ∷ pids) = if other == pid then suc (count_of_process pid pids) else count_of_process pid pids

module _ (program_of : Bytes → Option Program) where
  -- the steps of a schedule that are not on registers, in order
  abbrev pub replies : List ℕ → State → List StepResult
  replies [] s = []
  replies (pid ∷ pids) s =
      let now = step program_of s pid in if is_step_on_registers s pid then replies pids now.after else step_result pid now ∷ replies pids now.after

  -- all steps are on registers
  abbrev pub AreOnRegisters : List ℕ → State → Type 0
  AreOnRegisters [] s = Unit {0}
  AreOnRegisters (pid ∷ pids) s = IsTrue (is_step_on_registers s pid) × AreOnRegisters pids (step program_of s pid).after

  -- a number of steps of a live process on registers, and then one that is not
  abbrev pub IsTurn : ℕ → ℕ → State → Type 0
  IsTurn pid zero s = IsTrue (is_some (process_at s pid)) × IsFalse (is_step_on_registers s pid)
  IsTurn pid (suc count) s = IsTrue (is_step_on_registers s pid) × IsTurn pid count (step program_of s pid).after

  abbrev pub AreTurns : List CombinedTurn → State → Type 0
  AreTurns [] s = Unit {0}
  AreTurns (turn ∷ turns) s = IsTurn turn.0 turn.1 s × AreTurns turns (run program_of (replicate (suc turn.1) turn.0) s).final

-- a schedule as turns, and the steps on registers that no other step of their process follows. Each process makes the
-- same number of steps as in the schedule. The steps that are not on registers have the same outcomes and lines in the
-- same order, with and without the steps at the end
pub record NormalForm (program_of : Bytes → Option Program) (s : State) (pids : List ℕ) : Type 0 where
  pub turns : List CombinedTurn
  pub left : List ℕ
  pub joined : AreTurns program_of turns s
  pub at_end : AreOnRegisters program_of left (run program_of (steps_of_turns turns) s).final
  pub steps : AreSteps program_of (steps_of_turns turns ++ left) s
  pub count : length (steps_of_turns turns ++ left) ≡ length pids
  pub each : (pid : ℕ) → count_of_process pid (steps_of_turns turns ++ left) ≡ count_of_process pid pids
  pub replies : replies program_of (steps_of_turns turns) s ≡ replies program_of pids s
  pub lines : (run program_of (steps_of_turns turns) s).lines ≡ (run program_of pids s).lines
  pub final : (run program_of (steps_of_turns turns ++ left) s).final ≡ (run program_of pids s).final

-- every schedule of live processes has such a form
abbrev pub SchedulesHaveNormalForms : Type 0
SchedulesHaveNormalForms =
    (program_of : Bytes → Option Program) (s : State) (pids : List ℕ) → EncodesPrograms program_of → IsValid s → AreSteps program_of pids s → NormalForm program_of s pids

-- ---- combined steps

-- the number of the steps, and the result of the last one
pub record Combined : Type 0 where
  pub count : ℕ
  pub last : Stepped

abbrev pub one_more : Combined → Combined
one_more c = record c { count = suc c.count }

module _ (program_of : Bytes → Option Program) where
  -- the steps of a process on registers, at most `most`, and one more step
  abbrev pub together : ℕ → State → ℕ → Combined
  together zero s pid = record { count = 1; last = step program_of s pid }
  together (suc most) s pid =
      if is_step_on_registers s pid then one_more (together most (step program_of s pid).after pid) else record { count = 1; last = step program_of s pid }

  module _ (most : ℕ) where
    -- the steps of a schedule of combined steps
    abbrev pub steps_together : List ℕ → State → List ℕ
    steps_together [] s = []
    steps_together (pid ∷ pids) s = let now = together most s pid in replicate now.count pid ++ steps_together pids now.last.after

    -- its final state
    abbrev pub after_together : List ℕ → State → State
    after_together [] s = s
    after_together (pid ∷ pids) s = after_together pids (together most s pid).last.after

    -- all combined steps are of live processes
    abbrev pub AreCombined : List ℕ → State → Type 0
    AreCombined [] s = Unit {0}
    AreCombined (pid ∷ pids) s = IsTrue (is_some (process_at s pid)) × AreCombined pids (together most s pid).last.after

    -- the text of a combined step
    abbrev pub text_together : State → ℕ → Bytes
    text_together s pid = trace_bytes (together most s pid).last.lines

-- all steps but the last are on registers; the last is on registers only if it follows `most` of them
pub record IsCombined (program_of : Bytes → Option Program) (most : ℕ) (s : State) (pid : ℕ) : Type 0 where
  pub before : ℕ
  pub count : (together program_of most s pid).count ≡ suc before
  pub bound : before ≤ most
  pub first : AreOnRegisters program_of (replicate before pid) s
  pub last : (together program_of most s pid).last ≡ step program_of (run program_of (replicate before pid) s).final pid
  pub other : before < most → IsFalse (is_step_on_registers (run program_of (replicate before pid) s).final pid)

abbrev pub CombinedStepsAreOfRegisters : Type 0
CombinedStepsAreOfRegisters = (program_of : Bytes → Option Program) (most : ℕ) (s : State) (pid : ℕ) → IsCombined program_of most s pid

-- a schedule of combined steps is a schedule
pub record AreTheirSteps (program_of : Bytes → Option Program) (most : ℕ) (pids : List ℕ) (s : State) : Type 0 where
  pub steps : AreSteps program_of (steps_together program_of most pids s) s
  pub final : (run program_of (steps_together program_of most pids s) s).final ≡ after_together program_of most pids s

abbrev pub CombinedStepsAreSteps : Type 0
CombinedStepsAreSteps =
    (program_of : Bytes → Option Program) (most : ℕ) (pids : List ℕ) (s : State) → AreCombined program_of most pids s → AreTheirSteps program_of most pids s

-- combined steps that have no more steps in all than a schedule, and whose last step has the outcome and the lines of
-- the last step of the schedule
pub record EndsInSameStep (program_of : Bytes → Option Program) (most : ℕ) (s : State) (pids : List ℕ) (pid : ℕ) : Type 0 where
  pub before : List ℕ
  pub combined : AreCombined program_of most (before ++ pid ∷ []) s
  pub outcome : (together program_of most (after_together program_of most before s) pid).last.outcome ≡ (step program_of (run program_of pids s).final pid).outcome
  pub lines : (together program_of most (after_together program_of most before s) pid).last.lines ≡ (step program_of (run program_of pids s).final pid).lines
  pub no_longer : length (steps_together program_of most (before ++ pid ∷ []) s) ≤ length (pids ++ pid ∷ [])

-- each step that is not on registers is the last of such combined steps
abbrev pub CombinedStepsReachEach : Type 0
CombinedStepsReachEach =
    (program_of : Bytes → Option Program) (most : ℕ) (s : State) (pids : List ℕ) (pid : ℕ) → EncodesPrograms program_of → IsValid s → AreSteps program_of (pids ++ pid ∷ []) s
    → IsFalse (is_step_on_registers (run program_of pids s).final pid) → EndsInSameStep program_of most s pids pid

-- ---- schedules as combined steps

-- a schedule as combined steps, and steps on registers at the end. Each process makes the same number of steps as in the schedule.
-- The steps that are not on registers have the same outcomes and lines in the same order, with and without the steps at
-- the end
pub record CombinedForm (program_of : Bytes → Option Program) (most : ℕ) (s : State) (pids : List ℕ) : Type 0 where
  pub combined : List ℕ
  pub left : List ℕ
  pub live : AreCombined program_of most combined s
  pub at_end : AreOnRegisters program_of left (after_together program_of most combined s)
  pub count : length (steps_together program_of most combined s ++ left) ≡ length pids
  pub each : (pid : ℕ) → count_of_process pid (steps_together program_of most combined s ++ left) ≡ count_of_process pid pids
  pub replies : replies program_of (steps_together program_of most combined s) s ≡ replies program_of pids s
  pub lines : (run program_of (steps_together program_of most combined s) s).lines ≡ (run program_of pids s).lines
  pub final : (run program_of left (after_together program_of most combined s)).final ≡ (run program_of pids s).final

abbrev pub SchedulesHaveCombinedForms : Type 0
SchedulesHaveCombinedForms =
    (program_of : Bytes → Option Program) (most : ℕ) (s : State) (pids : List ℕ) → EncodesPrograms program_of → IsValid s → AreSteps program_of pids s
    → CombinedForm program_of most s pids

-- combined steps with the lines and the final state of a schedule, in which each process makes the same number
-- of steps
pub record EndsTogether (program_of : Bytes → Option Program) (most : ℕ) (s : State) (pids : List ℕ) : Type 0 where
  pub combined : List ℕ
  pub live : AreCombined program_of most combined s
  pub count : length (steps_together program_of most combined s) ≡ length pids
  pub each : (pid : ℕ) → count_of_process pid (steps_together program_of most combined s) ≡ count_of_process pid pids
  pub lines : (run program_of (steps_together program_of most combined s) s).lines ≡ (run program_of pids s).lines
  pub final : after_together program_of most combined s ≡ (run program_of pids s).final

-- each schedule that leaves no live process has such combined steps
abbrev pub CombinedStepsReachEndings : Type 0
CombinedStepsReachEndings =
    (program_of : Bytes → Option Program) (most : ℕ) (s : State) (pids : List ℕ) → EncodesPrograms program_of → IsValid s → AreSteps program_of pids s
    → IsTrue (has_ended (run program_of pids s).final) → EndsTogether program_of most s pids

-- ---- the least length of a schedule

-- a schedule of n steps of live processes, whose last step has this text
pub record HasSchedule (program_of : Bytes → Option Program) (s : State) (bytes : Bytes) (n : ℕ) : Type 0 where
  pub pids : List ℕ
  pub pid : ℕ
  pub steps : AreSteps program_of (pids ++ pid ∷ []) s
  pub text : text_of_step program_of (run program_of pids s).final pid ≡ bytes
  pub count : length (pids ++ pid ∷ []) ≡ n

-- combined steps of live processes, n steps in all, whose last one has this text
pub record HasCombined (program_of : Bytes → Option Program) (most : ℕ) (s : State) (bytes : Bytes) (n : ℕ) : Type 0 where
  pub pids : List ℕ
  pub pid : ℕ
  pub combined : AreCombined program_of most (pids ++ pid ∷ []) s
  pub text : text_together program_of most (after_together program_of most pids s) pid ≡ bytes
  pub count : length (steps_together program_of most (pids ++ pid ∷ []) s) ≡ n

abbrev pub IsLeast : (ℕ → Type 0) → ℕ → Type 0
IsLeast P n = P n × ((m : ℕ) → P m → n ≤ m)

-- the least number of steps to a text is the same for schedules and for combined steps
abbrev pub LeastLengthsAreEqual : Type 0
LeastLengthsAreEqual =
    (program_of : Bytes → Option Program) (most : ℕ) (s : State) (bytes : Bytes) (n : ℕ) → EncodesPrograms program_of → IsValid s → bytes ≢ []
    → IsLeast (HasSchedule program_of s bytes) n ↔ IsLeast (HasCombined program_of most s bytes) n

-- a text has a least number of steps, at most m, for schedules and for combined steps
pub record HasLeastLength (program_of : Bytes → Option Program) (most : ℕ) (s : State) (bytes : Bytes) (m : ℕ) : Type 0 where
  pub n : ℕ
  pub bound : n ≤ m
  pub schedule : IsLeast (HasSchedule program_of s bytes) n
  pub combined : IsLeast (HasCombined program_of most s bytes) n

abbrev pub TextsHaveLeastLengths : Type 0
TextsHaveLeastLengths =
    (program_of : Bytes → Option Program) (most : ℕ) (s : State) (bytes : Bytes) (m : ℕ) → EncodesPrograms program_of → IsValid s → bytes ≢ [] → HasSchedule program_of s bytes m
    → HasLeastLength program_of most s bytes m
