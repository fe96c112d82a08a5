-- The schedule of a run: cut after some steps, or in the text of a witness.
use Rattle.std.specs.Prelude.{ℕ, ◌-◌, ◌&&◌, nat_le, ◌==◌, if◌then◌else◌, List, [], ◌∷◌, Bool, true, false, Option, None, Some, Result, Ok, Err}
use Rattle.pv_model.specs.declared.fault.ScheduleFault.{ScheduleFault}
use Rattle.pv_model.specs.Machine.{Bytes, read_schedule, Started, Schedule}

-- a schedule cut after n steps
abbrev pub first_steps : ℕ → Schedule → Schedule
first_steps n [] = []
first_steps n ((pid, count) ∷ turns) = if nat_le n count then (pid, n) ∷ [] else (pid, count) ∷ first_steps (n - count) turns

-- the same, if there is a number of steps
abbrev pub first_turns : Option ℕ → Schedule → Schedule
first_turns None schedule = schedule
first_turns (Some n) schedule = first_steps n schedule

-- the start of a run whose schedule is cut, if there is a number of steps
abbrev pub cut_after : Option ℕ → Started → Started
cut_after steps it = record it { schedule = first_turns steps it.schedule }

-- the text of a schedule that represents turns with `, ` between, as in a witness: each `, ` is a newline
abbrev pub turns_text : Bytes → Bytes
turns_text [] = []
turns_text (b ∷ []) = b ∷ []
turns_text (b ∷ c ∷ bytes) = if b == 44 && c == 32 then 10 ∷ turns_text bytes else b ∷ turns_text (c ∷ bytes)

abbrev pub is_read : Result Schedule ScheduleFault → Bool
is_read (Ok schedule) = true
is_read (Err fault) = false

-- the text is turns with `, ` between
abbrev pub are_turns : Bytes → Bool
are_turns text = is_read (read_schedule (turns_text text))
