-- The schedules of the answer `turns`: their steps, and the states in which they end.
use Rattle.std.specs.Prelude.{◌≡◌, ◌≢◌, ◌↔◌, ℕ, ◌<◌, ◌≤◌, List, [], ◌∷◌, length, Option, None, IsSome}
use Rattle.pv_model.specs.declared.outcome.Outcome.TheVariants.{Blocked}
use Rattle.pv_model.specs.Machine.{turns, Bytes, program_of as programs, Program, State, process_at, run, step, steps_of}
use Rattle.pv_laws_runs.specs.Runs.{IsReachedFrom}

module _ (program_of : Bytes → Option Program) where
  -- a process is live, and its next step is not a blocked wait
  pub record IsReady (s : State) (pid : ℕ) : Type 0 where
    pub live : IsSome (process_at s pid)
    pub free : (step program_of s pid).outcome ≢ Blocked

  -- each step of a run is of a ready process
  abbrev pub AllReady : List ℕ → State → Type 0
  AllReady [] s = Unit {0}
  AllReady (pid ∷ pids) s = IsReady s pid × AllReady pids (step program_of s pid).after

  -- no process is ready
  abbrev pub NoneReady : State → Type 0
  NoneReady s = (pid : ℕ) → IsReady s pid → ⊥

  -- the steps of the schedule from a state
  abbrev pub steps_by_turns : ℕ → ℕ → State → List ℕ
  steps_by_turns slice steps s = steps_of (turns program_of slice steps s)

-- no process is live
abbrev pub NoneLive : State → Type 0
NoneLive s = (pid : ℕ) → process_at s pid ≡ None

-- each step of a schedule is of a process that is live then, and is not a blocked wait
abbrev pub TurnsAreReady : Type 0
TurnsAreReady = (program_of : Bytes → Option Program) (slice steps : ℕ) (s : State) → AllReady program_of (steps_by_turns program_of slice steps s) s

-- a schedule has at most the steps asked
abbrev pub TurnsAreWithin : Type 0
TurnsAreWithin = (program_of : Bytes → Option Program) (slice steps : ℕ) (s : State) → length (steps_by_turns program_of slice steps s) ≤ steps

-- if a schedule has fewer, no process is ready after it
abbrev pub TurnsEndIdle : Type 0
TurnsEndIdle =
    (program_of : Bytes → Option Program) (slice steps : ℕ) (s : State) → 1 ≤ slice → length (steps_by_turns program_of slice steps s) < steps
    → NoneReady program_of (run program_of (steps_by_turns program_of slice steps s) s).final

-- in each state that a run reaches, no process is ready if and only if no process is live
abbrev pub IdleIfNoneLives : Type 0
IdleIfNoneLives = (bytes : Bytes) (s : State) → IsReachedFrom bytes s → NoneReady programs s ↔ NoneLive s

-- so a schedule from such a state has fewer steps only if no process is live after it
abbrev pub TurnsEndWithNoneLive : Type 0
TurnsEndWithNoneLive =
    (bytes : Bytes) (slice steps : ℕ) (s : State) → IsReachedFrom bytes s → 1 ≤ slice → length (steps_by_turns programs slice steps s) < steps
    → NoneLive (run programs (steps_by_turns programs slice steps s) s).final
