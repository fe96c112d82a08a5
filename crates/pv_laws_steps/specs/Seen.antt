-- The part of a state that a step depends on, and the steps from two states that agree in it.
use Rattle.std.specs.Prelude.{◌≡◌, ℕ, if◌then◌else◌, ◌==◌, List, map, Option, None, Some}
use Rattle.pv_model.specs.Machine.{Bytes, held_by_table, Numbered, OpenFile, Descriptor, Program, Process, ProcessRecord, live, ended_record, State, process_at, Stepped, step, Tree}
use Rattle.pv_laws_states.specs.States.{IsValid}
use Rattle.pv_laws_steps.specs.Beside.{change_live, become}

-- the visible part of a record: everything of the process that makes the step; the parent and the references of another
-- live process; the whole record of an ended process
pub data SeenRecord : Type 0 where
  own_record : (whole : ProcessRecord) → SeenRecord
  live_other : (parent directory : ℕ) (descriptors : Numbered Descriptor) (held : List ℕ) → SeenRecord
  ended_other : (parent status : ℕ) → SeenRecord

abbrev pub seen_other : ProcessRecord → SeenRecord
seen_other (live p) = live_other p.parent p.directory p.descriptors (held_by_table p.table)
seen_other (ended_record parent status) = ended_other parent status

abbrev pub seen_record : ℕ → ℕ × ProcessRecord → ℕ × SeenRecord
seen_record pid r = (r.0, if r.0 == pid then own_record r.1 else seen_other r.1)

-- the part of a state that a step depends on: everything but the insides of other processes, that is, their restraints,
-- programs, lines, registers and buffers
pub record Seen : Type 0 where
  pub tree : Tree
  pub files : Numbered OpenFile
  pub records : List (ℕ × SeenRecord)
  pub last_process : ℕ

abbrev pub seen : ℕ → State → Seen
seen pid s = record { tree = s.tree; files = s.files; records = map (seen_record pid) s.processes; last_process = s.last_process }

-- a live record with the inside of this process, if there is one
abbrev pub with_inside : Option Process → ProcessRecord → ProcessRecord
with_inside None r = r
with_inside (Some q) r = change_live (become q) r

abbrev pub inside_from : ℕ → State → ℕ × ProcessRecord → ℕ × ProcessRecord
inside_from pid t r = (r.0, if r.0 == pid then r.1 else with_inside (process_at t r.0) r.1)

-- state u, with the insides of all live processes other than `pid` from state t, except for their own parents
abbrev pub with_insides : ℕ → State → State → State
with_insides pid t u = record u { processes = map (inside_from pid t) u.processes }

-- two steps of a process, the second from state t, have the same outcome and lines, and the next states differ only in
-- the insides of the other processes, which are those of t
pub record StepsWithOtherInsides (pid : ℕ) (t : State) (a b : Stepped) : Type 0 where
  pub outcome : b.outcome ≡ a.outcome
  pub lines : b.lines ≡ a.lines
  pub after : b.after ≡ with_insides pid t a.after

-- a step depends on nothing else: from two states that agree in this part, the steps are the same in this sense
abbrev pub StepsBySeen : Type 0
StepsBySeen =
    (program_of : Bytes → Option Program) (s t : State) (pid : ℕ) → IsValid s → IsValid t → seen pid s ≡ seen pid t
    → StepsWithOtherInsides pid t (step program_of s pid) (step program_of t pid)
