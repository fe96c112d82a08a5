-- Laws of privilege: within one program image it never grows. pledge(2), unveil(2).
use Rattle.std.specs.Prelude.{◌≡◌, ◌≢◌, ◌⊎◌, ℕ, ℤ, suc, Bool, true, false, IsTrue, IsFalse, List, [], ◌∷◌, slice_get, Option, None, Some, is_some}
use Rattle.std.specs.FinMap.Entries.{find, is_sorted}
use Rattle.std.specs.Ordering.{nat_cmp}
use Rattle.pv_model.specs.declared.call.Call.{Call}
use Rattle.pv_model.specs.declared.call.Call.TheVariants.{Execve, Fork}
use Rattle.pv_model.specs.declared.outcome.Outcome.{Outcome}
use Rattle.pv_model.specs.declared.outcome.Outcome.TheVariants.{Value}
use Rattle.pv_model.specs.declared.perms.Perms.{Perms}
use Rattle.pv_model.specs.declared.promise.Promise.{Promise}
use Rattle.pv_model.specs.declared.target.Target.{Target}
use Rattle.pv_model.specs.Machine.{Bytes, open_file, at_number, covers, Next, calls_for, next, Promises, contains, OpenFile, Descriptor, Program, Process, State, process_at, step, run, descriptor_of, Table}
use Rattle.pv_laws_states.specs.States.{EncodesPrograms, IsValid}

-- promises that are set stay set and gain no keyword
abbrev pub GainsNone : Option Promises → Option Promises → Type 0
GainsNone None after = Unit {0}
GainsNone (Some held) None = ⊥
GainsNone (Some held) (Some preserved) = (p : Promise) → IsTrue (contains preserved p) → IsTrue (contains held p)

-- an entry for the same target without additional permissions
abbrev pub IsLesserEntry : Target × Perms → Option (Target × Perms) → Type 0
IsLesserEntry e None = ⊥
IsLesserEntry e (Some f) = (f.0 ≡ e.0) × IsTrue (covers e.1 f.1)

-- each entry keeps its number and its target, and gains no permission
pub record KeepsEntries (before after : Table) : Type 0 where
  pub each : (k : ℕ) (e : Target × Perms) → slice_get before k ≡ Some e → IsLesserEntry e (slice_get after k)

-- a table in force stays in force
abbrev pub KeepsTable : Option Table → Option Table → Type 0
KeepsTable None after = Unit {0}
KeepsTable (Some before) None = ⊥
KeepsTable (Some before) (Some after) = KeepsEntries before after

-- the second process may do no more than the first; a locked table is unchanged
pub record HasNoMoreRights (p q : Process) : Type 0 where
  pub promises : GainsNone p.promises q.promises
  pub execpromises : GainsNone p.execpromises q.execpromises
  pub table : KeepsTable p.table q.table
  pub lock : IsTrue p.locked → IsTrue q.locked
  pub closed : IsTrue p.locked → q.table ≡ p.table

-- both processes have the same restraints and descriptors
pub record HasSameRights (p q : Process) : Type 0 where
  pub promises : q.promises ≡ p.promises
  pub execpromises : q.execpromises ≡ p.execpromises
  pub table : q.table ≡ p.table
  pub locked : q.locked ≡ p.locked
  pub descriptors : q.descriptors ≡ p.descriptors

-- the process table is in ascending order and does not contain the next process number
pub record IsInOrder (s : State) : Type 0 where
  pub ascending : IsTrue (is_sorted nat_cmp s.processes)
  pub next_is_free : find nat_cmp (suc s.last_process) s.processes ≡ None

-- a process is unchanged except for its parent
pub record IsUnchangedExceptParent (p q : Process) : Type 0 where
  pub all : q ≡ record p { parent = q.parent }

-- an open file has the same node and mode; its position may differ, because processes may share it
pub record IsSameFile (before after : OpenFile) : Type 0 where
  pub node : after.node ≡ before.node
  pub mode : after.mode ≡ before.mode

abbrev pub ValidIsInOrder : Type 0
ValidIsInOrder = (s : State) → IsValid s → IsInOrder s

-- whether a step starts a new program image, that is, is a successful execve
abbrev pub begins_image : Next → Outcome → Bool
begins_image (calls_for (Execve path)) (Value n) = true
begins_image next outcome = false

-- a step that starts no new image, and after which its process is live, adds no rights
abbrev pub RightsNeverGrow : Type 0
RightsNeverGrow =
    (program_of : Bytes → Option Program) (s : State) (pid : ℕ) (p q : Process) → IsInOrder s
    → process_at s pid ≡ Some p → process_at (step program_of s pid).after pid ≡ Some q
    → IsFalse (begins_image (next p) (step program_of s pid).outcome) → HasNoMoreRights p q

-- a step of another process leaves a live process live, and changes only its parent
abbrev pub OthersAreUnchanged : Type 0
OthersAreUnchanged =
    (program_of : Bytes → Option Program) (s : State) (pid other : ℕ) (p : Process) → IsInOrder s
    → other ≢ pid → process_at s other ≡ Some p
    → (q : Process) × (process_at (step program_of s pid).after other ≡ Some q) × IsUnchangedExceptParent p q

-- the call of a process uses its own descriptor for an open file
pub record IsNamedBy (s : State) (pid k : ℕ) : Type 0 where
  pub p : Process
  pub call : Call
  pub d : ℤ
  pub file : OpenFile
  pub at : process_at s pid ≡ Some p
  pub next_is : next p ≡ calls_for call
  pub own : descriptor_of call ≡ Some d
  pub opened : open_file s p d ≡ Some (k, file)

-- each descriptor of another process stays on an open file with the same node and mode, which is unchanged unless the
-- call uses a descriptor for it
abbrev pub OthersKeepTheirFiles : Type 0
OthersKeepTheirFiles =
    (program_of : Bytes → Option Program) (s : State) (pid other : ℕ) (p : Process) (d : ℕ) (x : Descriptor) (file : OpenFile) → IsInOrder s
    → other ≢ pid → process_at s other ≡ Some p → at_number p.descriptors d ≡ Some x → at_number s.files x.file ≡ Some file
    → (left : OpenFile) × (at_number (step program_of s pid).after.files x.file ≡ Some left) × IsSameFile file left × ((left ≡ file) ⊎ IsNamedBy s pid x.file)

-- a child starts with its parent's restraints and descriptors
abbrev pub ChildHasSameRights : Type 0
ChildHasSameRights =
    (program_of : Bytes → Option Program) (s : State) (pid n : ℕ) (p : Process) → process_at s pid ≡ Some p
    → next p ≡ calls_for Fork → (step program_of s pid).outcome ≡ Value n
    → (child : Process) × (process_at (step program_of s pid).after n ≡ Some child) × HasSameRights p child

-- the restraints after an execve: the promises are the execpromises; without execpromises the table and the lock are
-- removed
pub record HasExecuted (p q : Process) : Type 0 where
  pub promises : q.promises ≡ p.execpromises
  pub execpromises : q.execpromises ≡ p.execpromises
  pub stays : (set : Promises) → p.execpromises ≡ Some set → (q.table ≡ p.table) × (q.locked ≡ p.locked)
  pub goes : p.execpromises ≡ None → (q.table ≡ None) × (q.locked ≡ false)

-- a successful execve returns 0 and leaves these restraints
abbrev pub ExecveLeaves : Type 0
ExecveLeaves =
    (program_of : Bytes → Option Program) (s : State) (pid n : ℕ) (p : Process) (path : Bytes) → process_at s pid ≡ Some p
    → next p ≡ calls_for (Execve path) → (step program_of s pid).outcome ≡ Value n
    → (n ≡ 0) × ((q : Process) × (process_at (step program_of s pid).after pid ≡ Some q) × HasExecuted p q)

-- the next step of a live process starts no new image
abbrev pub StaysAtStep : (Bytes → Option Program) → State → ℕ → Type 0
StaysAtStep program_of s pid = (p : Process) → process_at s pid ≡ Some p → IsFalse (begins_image (next p) (step program_of s pid).outcome)

-- process `pid` is live throughout a run, and none of its steps starts a new image
abbrev pub StaysInImage : (Bytes → Option Program) → ℕ → List ℕ → State → Type 0
StaysInImage program_of pid [] s = Unit {0}
StaysInImage program_of pid (k ∷ ks) s =
    ((k ≡ pid) → StaysAtStep program_of s pid) × IsTrue (is_some (process_at (step program_of s k).after pid))
    × StaysInImage program_of pid ks (step program_of s k).after

-- along such a run, a process gains nothing, whatever steps other processes make
abbrev pub RunsWithoutGrowth : Type 0
RunsWithoutGrowth =
    (program_of : Bytes → Option Program) → EncodesPrograms program_of → (s : State) (pid : ℕ) (pids : List ℕ) (p q : Process) → IsValid s
    → process_at s pid ≡ Some p → StaysInImage program_of pid pids s → process_at (run program_of pids s).final pid ≡ Some q → HasNoMoreRights p q
