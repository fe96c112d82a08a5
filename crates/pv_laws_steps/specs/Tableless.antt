-- Calls on descriptors do not depend on the table: unveil(2).
use Rattle.std.specs.Prelude.{◌≡◌, ℕ, Bool, true, false, IsTrue, Option, Some}
use Rattle.pv_model.specs.declared.call.Call.{Call}
use Rattle.pv_model.specs.declared.call.Call.TheVariants.{Close, Dup, Dup2, Read, Write, Lseek, Fstat, Ftruncate, Getdents, Fchdir}
use Rattle.pv_model.specs.Machine.{Bytes, held_by_table, calls_for, next, Program, Process, State, process_at, step, Table}
use Rattle.pv_laws_states.specs.States.{IsValid}
use Rattle.pv_laws_steps.specs.Beside.{with_change, StepsWithOtherProcess}

abbrev pub is_by_descriptor : Call → Bool
is_by_descriptor (Close d) = true
is_by_descriptor (Dup d) = true
is_by_descriptor (Dup2 d e) = true
is_by_descriptor (Read d n) = true
is_by_descriptor (Write d n) = true
is_by_descriptor (Lseek d by whence) = true
is_by_descriptor (Fstat d) = true
is_by_descriptor (Ftruncate d n) = true
is_by_descriptor (Getdents d) = true
is_by_descriptor (Fchdir d) = true
is_by_descriptor call = false

abbrev pub relabel : Option Table → Bool → Process → Process
relabel table locked p = record p { table = table; locked = locked }

-- with other permissions in the caller's table and another lock, or with any table that references the same
-- directories, a call on descriptors has the same result
abbrev pub DescriptorCallsIgnoreTable : Type 0
DescriptorCallsIgnoreTable =
    (program_of : Bytes → Option Program) (s : State) (pid : ℕ) (p : Process) (call : Call) (table : Option Table) (locked : Bool) → IsValid s → process_at s pid ≡ Some p
    → next p ≡ calls_for call → IsTrue (is_by_descriptor call) → held_by_table table ≡ held_by_table p.table
    → StepsWithOtherProcess pid (relabel table locked) (step program_of s pid) (step program_of (with_change s pid (relabel table locked)) pid)
