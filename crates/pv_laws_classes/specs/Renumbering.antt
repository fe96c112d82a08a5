-- States that are equal up to a renumbering of open files, and the steps and runs from them.
use Rattle.std.specs.Prelude.{◌≡◌, ℕ, IsTrue, List, map, Option, option_map, is_some}
use Rattle.pv_model.specs.Machine.{Bytes, Numbered, at_number, Descriptor, Program, Process, ProcessRecord, live, ended_record, State, Stepped, Run, step, run}
use Rattle.pv_laws_states.specs.States.{IsValid}

module _ (f : ℕ → ℕ) where
  -- the same descriptor, for the open file with the new number
  abbrev pub renumbered_descriptor : Descriptor → Descriptor
  renumbered_descriptor d = record d { file = f d.file }

  abbrev pub renumbered_descriptors : Numbered Descriptor → Numbered Descriptor
  renumbered_descriptors ds = map (option_map renumbered_descriptor) ds

  abbrev pub renumbered_process : Process → Process
  renumbered_process p = record p { descriptors = renumbered_descriptors p.descriptors }

  abbrev pub renumbered_record : ProcessRecord → ProcessRecord
  renumbered_record (live p) = live (renumbered_process p)
  renumbered_record (ended_record parent status) = ended_record parent status

  abbrev pub renumbered_processes : List (ℕ × ProcessRecord) → List (ℕ × ProcessRecord)
  renumbered_processes rs = map (λ r. (r.0, renumbered_record r.1)) rs

-- an open file has this number; in a valid state, a descriptor of a live process refers to it
abbrev pub IsInUse : State → ℕ → Type 0
IsInUse s n = IsTrue (is_some (at_number s.files n))

-- state t is state s with each open file n under the number f n, and everything else is the same
pub record Renumbered (f : ℕ → ℕ) (s t : State) : Type 0 where
  pub tree : t.tree ≡ s.tree
  pub last_process : t.last_process ≡ s.last_process
  pub processes : t.processes ≡ renumbered_processes f s.processes
  -- different open files have different new numbers
  pub injective : (m n : ℕ) → IsInUse s m → IsInUse s n → f m ≡ f n → m ≡ n
  pub files : (n : ℕ) → IsInUse s n → at_number t.files (f n) ≡ at_number s.files n
  pub no_others : (m : ℕ) → IsInUse t m → (n : ℕ) × IsInUse s n × (f n ≡ m)

-- two steps have the same outcome and lines, and the next states are equal up to a renumbering of open files
pub record StepsAreEqualRenumbered (a b : Stepped) : Type 0 where
  pub outcome : b.outcome ≡ a.outcome
  pub lines : b.lines ≡ a.lines
  pub renumbering : ℕ → ℕ
  pub after : Renumbered renumbering a.after b.after

-- the steps of a process from two such states have these properties. The numbering may change: an open gets the least
-- free number in each state
abbrev pub RenumberedStepsAreEqual : Type 0
RenumberedStepsAreEqual =
    (program_of : Bytes → Option Program) (f : ℕ → ℕ) (s t : State) (pid : ℕ) → IsValid s → IsValid t → Renumbered f s t
    → StepsAreEqualRenumbered (step program_of s pid) (step program_of t pid)

-- two runs have the same lines, and the final states are equal up to a renumbering of open files
pub record RunsAreEqualRenumbered (a b : Run) : Type 0 where
  pub lines : b.lines ≡ a.lines
  pub renumbering : ℕ → ℕ
  pub final : Renumbered renumbering a.final b.final

-- the runs of one schedule from two such states have these properties
abbrev pub RenumberedRunsAreEqual : Type 0
RenumberedRunsAreEqual =
    (program_of : Bytes → Option Program) (f : ℕ → ℕ) (s t : State) (pids : List ℕ) → IsValid s → IsValid t → Renumbered f s t
    → RunsAreEqualRenumbered (run program_of pids s) (run program_of pids t)
