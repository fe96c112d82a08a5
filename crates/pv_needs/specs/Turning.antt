-- Turns, and the process that has the next turn.
use Rattle.std.specs.Prelude.{◌≡◌, ◌&&◌, ℕ, nat_le, nat_lt, ◌++◌, map, Option, None, Some}
use Rattle.std.specs.List.{filter}
use Rattle.pv_model.specs.Machine.{first_of, continues, Bytes, program_of as programs, Program, State, Schedule, step}
use Rattle.pv_model.specs.Answers.Turns.{schedule_text, turn}
use Rattle.pv_streams.specs.Sinks.{and_all}

module _ (program_of : Bytes → Option Program) where
  -- the first process above one number, up to another, whose next step can be made
  abbrev pub first_between : State → ℕ → ℕ → Option ℕ
  first_between s after up_to =
      first_of (filter (λ k. (nat_lt after k && nat_le k up_to) && continues (step program_of s k).outcome) (map (λ r. r.0) s.processes))

-- a turn of a process was made, with this number of steps
abbrev pub IsTurnMade : ℕ → ℕ → State → ℕ → State → Type 0
IsTurnMade most pid s count after = turn programs most pid s ≡ record { count = count; after = after }

-- a turn of a process was made, if there is one
abbrev pub IsTurnTaken : ℕ → State → Option ℕ → Option (ℕ × ℕ) → State → Type 0
IsTurnTaken most s None made after = (made ≡ None) × (after ≡ s)
IsTurnTaken most s (Some pid) made after = (count : ℕ) × (made ≡ Some (pid, count)) × IsTurnMade most pid s count after

-- the lines of the first turns of a schedule were written
pub record TurnsWritten (schedule : Schedule) (before after : Option Bytes) : Type 0 where
  pub made : Schedule
  pub rest : Schedule
  pub all : schedule ≡ made ++ rest
  pub as_written : after ≡ and_all before (schedule_text made)
