-- Laws of runs in which one process and those that are forked from it make the steps.
use Rattle.std.specs.Prelude.{◌≡◌, ◌⊎◌, ℕ, Bool, ◌||◌, IsTrue, List, [], ◌∷◌, length, Option, None, Some, is_some}
use Rattle.std.specs.List.{AllByRecursion}
use Rattle.pv_model.specs.declared.promise.Promise.TheVariants.{Cpath, Exec as ExecPromise}
use Rattle.pv_model.specs.Machine.{Bytes, is_file, Program, Process, State, process_at, writes, step, run, file_bytes, with_bytes, node_at, Table}
use Rattle.pv_model.specs.Closed.{Lacks, HasOn, GivesName, GivesAbove, IsClosed, IsFixedByPledge, IsFixedByTable}
use Rattle.pv_laws_states.specs.States.{EncodesPrograms, IsValid}
use Rattle.pv_laws_access.specs.Sealing.{RunsDifferInFile}

-- all steps are of a process, and of those that are forked from it from this state on: no other process that is live in this
-- state makes a step. Numbers of processes are not used again.
abbrev pub AreOwnSteps : State → ℕ → List ℕ → Type 0
AreOwnSteps s pid pids = AllByRecursion (λ k. (k ≡ pid) ⊎ (process_at s k ≡ None)) pids

-- if the process is closed to a file, such runs do not depend on the bytes of the file, given their number
abbrev pub ClosedRunsAreEqual : Type 0
ClosedRunsAreEqual =
    (program_of : Bytes → Option Program) → EncodesPrograms program_of → (s : State) (pid : ℕ) (p : Process) (pids : List ℕ) (f : ℕ) (bytes : Bytes) → IsValid s
    → IsTrue (is_file (node_at s.tree f)) → process_at s pid ≡ Some p → IsClosed s p f → AreOwnSteps s pid pids → length bytes ≡ length (file_bytes s f)
    → RunsDifferInFile f (run program_of pids s) (run program_of pids (with_bytes s f bytes))

-- a node with this number is there after each step; so it is the same node
abbrev pub IsThereThroughout : (Bytes → Option Program) → List ℕ → State → ℕ → Type 0
IsThereThroughout program_of [] s f = Unit {0}
IsThereThroughout program_of (pid ∷ pids) s f =
    IsTrue (is_some (node_at (step program_of s pid).after.tree f)) × IsThereThroughout program_of pids (step program_of s pid).after f

-- the promises prevent the process from linking and moving anything
pub record IsPledgedInPlace (s : State) (p : Process) (f : ℕ) : Type 0 where
  pub no_cpath : Lacks p Cpath
  pub no_exec : Lacks p ExecPromise

-- the table prevents the process from linking and moving the file
pub record IsUnveiledInPlace (s : State) (p : Process) (f : ℕ) (table : Table) : Type 0 where
  pub names : (k : ℕ) → ¬ GivesName s p f table (λ permissions. permissions.r || permissions.c) k
  pub directories : (k : ℕ) → ¬ GivesAbove s p f table k

pub record IsUnveiledFixed (s : State) (p : Process) (f : ℕ) (table : Table) : Type 0 where
  pub from : IsFixedByTable s p f table
  pub in_place : IsPledgedInPlace s p f ⊎ IsUnveiledInPlace s p f table

-- the process does not write the file and never will
pub record IsFixed (s : State) (p : Process) (f : ℕ) : Type 0 where
  pub descriptors : (d : ℕ) → ¬ HasOn s p f writes d
  pub restraints : IsFixedByPledge s p f ⊎ ((table : Table) × IsUnveiledFixed s p f table)

-- if the process is fixed to a file, such runs do not change the bytes of the file while it is there
abbrev pub FixedRunsKeep : Type 0
FixedRunsKeep =
    (program_of : Bytes → Option Program) → EncodesPrograms program_of → (s : State) (pid : ℕ) (p : Process) (pids : List ℕ) (f : ℕ) → IsValid s
    → IsTrue (is_file (node_at s.tree f)) → process_at s pid ≡ Some p → IsFixed s p f → AreOwnSteps s pid pids → IsThereThroughout program_of pids s f
    → file_bytes (run program_of pids s).final f ≡ file_bytes s f
