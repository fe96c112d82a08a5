-- A fair schedule: the live processes by ascending number, in turns of a limited number of steps.
use Rattle.std.specs.Prelude.{ℕ, zero, suc, ◌-◌, Bool, true, false, if◌then◌else◌, nat_lt, nat_le, min, List, [], ◌∷◌, ◌++◌, map, filter, flat_map, codes, Option, None, Some}
use Rattle.std.specs.Fmt.{decimal}
use Rattle.pv_model.specs.declared.outcome.Outcome.{Outcome}
use Rattle.pv_model.specs.declared.outcome.Outcome.TheVariants.{Blocked, Gone}
use Rattle.pv_model.specs.Answers.Nodes.{first_of}
use Rattle.pv_model.specs.Bytes.{Bytes}
use Rattle.pv_model.specs.Held.{live_processes}
use Rattle.pv_model.specs.State.{Program, State}
use Rattle.pv_model.specs.Step.{Schedule, step}

-- a turn: the number of its steps, and the state after them
pub record Turn : Type 0 where
  pub count : ℕ
  pub after : State

abbrev pub one_step_more : Turn → Turn
one_step_more turn = record turn { count = suc turn.count }

-- whether a turn includes a step with this outcome: one of a live process that does not block
abbrev pub continues : Outcome → Bool
continues Blocked = false
continues Gone = false
continues _ = true

-- the numbers of the live processes: those above `pid`, then the others
abbrev pub live_after : ℕ → State → List ℕ
live_after pid s =
    let pids = map (λ p. p.0) (live_processes s.processes) in
    filter (λ other. nat_lt pid other) pids ++ filter (λ other. nat_le other pid) pids

module _ (program_of : Bytes → Option Program) where
  -- up to a number of steps of a process
  unfoldable pub turn : ℕ → ℕ → State → Turn
  turn zero pid s = record { count = 0; after = s }
  turn (suc steps) pid s =
      let now = step program_of s pid in if continues now.outcome then one_step_more (turn steps pid now.after) else record { count = 0; after = s }

  -- the process with the next turn after process `pid`; a process whose turn would have no step is skipped
  abbrev pub next_turn : ℕ → State → Option ℕ
  next_turn pid s = first_of (filter (λ other. continues (step program_of s other).outcome) (live_after pid s))

  module _ (slice : ℕ) where
    abbrev pub turn_then : (ℕ → ℕ → State → Schedule) → ℕ → State → Option ℕ → Schedule
    turn_then rest steps s None = []
    turn_then rest steps s (Some pid) =
        let now = turn (min slice steps) pid s in (pid, now.count) ∷ rest (steps - now.count) pid now.after

    -- the turns after the turn of process `pid`, with a limit on the turns and on the total number of steps
    abbrev pub turns_within : ℕ → ℕ → ℕ → State → Schedule
    turns_within zero steps pid s = []
    turns_within (suc turns) zero pid s = []
    turns_within (suc turns) (suc steps) pid s = turn_then (turns_within turns) (suc steps) s (next_turn pid s)

    -- the turns from a state on, with a limit on the total number of steps; the number of turns is at most the number
    -- of steps
    unfoldable pub turns : ℕ → State → Schedule
    turns steps s = turns_within steps steps 0 s

-- a turn as a line
abbrev pub turn_line : ℕ × ℕ → Bytes
turn_line (pid, count) = decimal pid ++ codes " " ++ decimal count ++ 10 ∷ []

abbrev pub schedule_text : Schedule → Bytes
schedule_text schedule = flat_map turn_line schedule
