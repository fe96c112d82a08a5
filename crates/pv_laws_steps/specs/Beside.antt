-- Two states that differ only inside one process, and the steps from them.
use Rattle.std.specs.Prelude.{◌≡◌, ◌≢◌, ℕ, if◌then◌else◌, ◌==◌, map, Option, Some}
use Rattle.pv_model.specs.Machine.{Bytes, held_by_table, Program, Process, ProcessRecord, live, ended_record, State, process_at, Stepped, step}
use Rattle.pv_laws_states.specs.States.{IsValid}

abbrev pub change_live : (Process → Process) → ProcessRecord → ProcessRecord
change_live f (live p) = live (f p)
change_live f (ended_record parent status) = ended_record parent status

abbrev pub change_at : ℕ → (Process → Process) → ℕ × ProcessRecord → ℕ × ProcessRecord
change_at k f r = (r.0, if r.0 == k then change_live f r.1 else r.1)

-- the state with a function applied to process k, if it is live
abbrev pub with_change : State → ℕ → (Process → Process) → State
with_change s k f = record s { processes = map (change_at k f) s.processes }

-- two processes have the same references: directory, descriptors, and the nodes of their tables
pub record HasSameReferences (p q : Process) : Type 0 where
  pub directory : q.directory ≡ p.directory
  pub descriptors : q.descriptors ≡ p.descriptors
  pub held : held_by_table q.table ≡ held_by_table p.table

-- the process q, with the parent of p
abbrev pub become : Process → Process → Process
become q p = record q { parent = p.parent }

-- two steps have the same outcome and lines, and the next states differ only by this change inside process k
pub record StepsWithOtherProcess (k : ℕ) (f : Process → Process) (a b : Stepped) : Type 0 where
  pub outcome : b.outcome ≡ a.outcome
  pub lines : b.lines ≡ a.lines
  pub after : b.after ≡ with_change a.after k f

-- a step does not depend on another process's restraints, program, line, registers or buffer
abbrev pub OthersDoNotMatter : Type 0
OthersDoNotMatter =
    (program_of : Bytes → Option Program) (s : State) (pid k : ℕ) (p q : Process) → IsValid s → k ≢ pid → process_at s k ≡ Some p → HasSameReferences p q
    → StepsWithOtherProcess k (become q) (step program_of s pid) (step program_of (with_change s k (become q)) pid)
