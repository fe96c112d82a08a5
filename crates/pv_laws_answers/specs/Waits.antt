-- No schedule ends in a deadlock: if a process is live, some live process has a next step that does not block.
use Rattle.std.specs.Prelude.{◌≡◌, ◌≢◌, ℕ, ◌<◌, IsTrue, List, Option, Some}
use Rattle.std.specs.List.{AllByRecursion}
use Rattle.pv_model.specs.declared.outcome.Outcome.TheVariants.{Blocked}
use Rattle.pv_model.specs.Machine.{Bytes, parent_of, Program, Process, State, first_state, process_at, step, run, Tree}
use Rattle.pv_laws_states.specs.States.{EncodesPrograms, IsFirstTree, IsValid, is_program_in_bounds}

-- the number of each process is greater than its parent's, even if process 1 has adopted it
abbrev pub ParentsHaveLesserNumbers : State → Type 0
ParentsHaveLesserNumbers s = AllByRecursion (λ r. parent_of r.1 < r.0) s.processes

-- this holds in the first state, and each step preserves it
abbrev pub FirstParentsHaveLesserNumbers : Type 0
FirstParentsHaveLesserNumbers = (t : Tree) (program : Program) → ParentsHaveLesserNumbers (first_state t program)

abbrev pub StepsKeepParentsLesser : Type 0
StepsKeepParentsLesser = (program_of : Bytes → Option Program) (s : State) (pid : ℕ) → IsValid s → ParentsHaveLesserNumbers s → ParentsHaveLesserNumbers (step program_of s pid).after

-- a live process whose next step does not block
pub record HasUnblockedProcess (program_of : Bytes → Option Program) (s : State) : Type 0 where
  pub pid : ℕ
  pub process : Process
  pub lives : process_at s pid ≡ Some process
  pub goes : (step program_of s pid).outcome ≢ Blocked

-- if a process is live, there is such a process: the live process with the greatest number has no live child
abbrev pub SomeProcessIsUnblocked : Type 0
SomeProcessIsUnblocked =
    (program_of : Bytes → Option Program) (s : State) (pid : ℕ) (p : Process) → IsValid s → ParentsHaveLesserNumbers s → process_at s pid ≡ Some p → HasUnblockedProcess program_of s

-- this holds in each state of each run
abbrev pub NoRunDeadlocks : Type 0
NoRunDeadlocks =
    (program_of : Bytes → Option Program) (t : Tree) (program : Program) (pids : List ℕ) (pid : ℕ) (p : Process)
    → EncodesPrograms program_of → IsFirstTree t → IsTrue (is_program_in_bounds program)
    → process_at (run program_of pids (first_state t program)).final pid ≡ Some p → HasUnblockedProcess program_of (run program_of pids (first_state t program)).final
