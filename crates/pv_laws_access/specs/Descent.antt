-- The restraints that descendants inherit through any forks and execves: pledge(2), unveil(2).
use Rattle.std.specs.Prelude.{◌≡◌, ℕ, IsTrue, List, [], ◌∷◌, Option, Some, is_some}
use Rattle.pv_model.specs.Machine.{Bytes, Program, Process, State, process_at, step, run, Table}
use Rattle.pv_model.specs.Closed.{IsHeldOverExec}
use Rattle.pv_laws_states.specs.States.{EncodesPrograms, IsValid}
use Rattle.pv_laws_access.specs.Growth.{GainsNone}
use Rattle.pv_laws_access.specs.Origins.{origin}

-- process k after a run is process j before it, or one of its descendants
abbrev pub Descends : (Bytes → Option Program) → ℕ → ℕ → List ℕ → State → Type 0
Descends program_of j k [] s = j ≡ k
Descends program_of j k (pid ∷ pids) s =
    (m : ℕ) × (origin s pid m ≡ j) × IsTrue (is_some (process_at (step program_of s pid).after m)) × Descends program_of m k pids (step program_of s pid).after

-- a process with a locked table that no execve can remove
pub record IsHeldTo (table : Table) (p : Process) : Type 0 where
  pub in_force : p.table ≡ Some table
  pub locked : IsTrue p.locked
  pub over_exec : IsHeldOverExec p

-- a descendant has the same locked table, and execpromises with no additional keyword
pub record HasInherited (table : Table) (p q : Process) : Type 0 where
  pub held : IsHeldTo table q
  pub execpromises : GainsNone p.execpromises q.execpromises

-- every descendant of such a process inherits this
abbrev pub DescendantsAreHeld : Type 0
DescendantsAreHeld =
    (program_of : Bytes → Option Program) → EncodesPrograms program_of → (s : State) (pids : List ℕ) (j k : ℕ) (p q : Process) (table : Table) → IsValid s
    → process_at s j ≡ Some p → IsHeldTo table p → Descends program_of j k pids s → process_at (run program_of pids s).final k ≡ Some q → HasInherited table p q
