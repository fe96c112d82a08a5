-- The limits of the steps of a process that is pledged without a promise: pledge(2).
use Rattle.std.specs.Prelude.{◌≡◌, ◌⊎◌, ℕ, Bool, false, IsTrue, IsFalse, if◌then◌else◌, [], ◌∷◌, Option, None, Some, is_some}
use Rattle.pv_model.specs.declared.call.Call.{Call}
use Rattle.pv_model.specs.declared.call.Call.TheVariants.{Pledge}
use Rattle.pv_model.specs.declared.errno.Errno.TheVariants.{EPERM, ENOSYS}
use Rattle.pv_model.specs.declared.outcome.Cause.{Cause}
use Rattle.pv_model.specs.declared.outcome.Cause.TheVariants.{Promise as ByPromise}
use Rattle.pv_model.specs.declared.outcome.Outcome.TheVariants.{Failed, Killed}
use Rattle.pv_model.specs.declared.promise.Promise.{Promise}
use Rattle.pv_model.specs.declared.promise.Promise.TheVariants.{Rpath, Wpath, Cpath, Proc, Exec, Unveil}
use Rattle.pv_model.specs.Machine.{Bytes, needs, calls_for, next, is_lenient, missing_promise, Program, Process, State, reads, writes, process_at, step, read_file, change_file, report_node, Touches, node_at, walks_of}
use Rattle.pv_model.specs.Sealed.{is_pledged_without}
use Rattle.pv_model.specs.Touch.{Touch, HasDescriptor, any_mode, lists_names}
use Rattle.pv_laws_states.specs.States.{IsValid}
use Rattle.pv_laws_access.specs.Growth.{begins_image}

-- without wpath, the bytes of a file change only by the call's own descriptor, open for writing
abbrev pub BytesChangeByDescriptor : Type 0
BytesChangeByDescriptor =
    (program_of : Bytes → Option Program) (s : State) (pid : ℕ) (p : Process) (f : ℕ) → IsValid s → process_at s pid ≡ Some p
    → IsTrue (is_pledged_without (Wpath ∷ []) p) → Touches program_of s pid (change_file f)
    → (call : Call) × (next p ≡ calls_for call) × HasDescriptor s p call writes f

-- without cpath, no node is created
abbrev pub NoNodeIsMade : Type 0
NoNodeIsMade =
    (program_of : Bytes → Option Program) (s : State) (pid : ℕ) (p : Process) (n : ℕ) → IsValid s → process_at s pid ≡ Some p
    → IsTrue (is_pledged_without (Cpath ∷ []) p) → IsTrue (is_some (node_at (step program_of s pid).after.tree n)) → IsTrue (is_some (node_at s.tree n))

-- without exec, no program image starts
abbrev pub NoImageBegins : Type 0
NoImageBegins =
    (program_of : Bytes → Option Program) (s : State) (pid : ℕ) (p : Process) → process_at s pid ≡ Some p
    → IsTrue (is_pledged_without (Exec ∷ []) p) → IsFalse (begins_image (next p) (step program_of s pid).outcome)

-- without proc, no child is created
abbrev pub NoChildBegins : Type 0
NoChildBegins =
    (program_of : Bytes → Option Program) (s : State) (pid : ℕ) (p : Process) (k : ℕ) → IsValid s → process_at s pid ≡ Some p
    → IsTrue (is_pledged_without (Proc ∷ []) p) → IsTrue (is_some (process_at (step program_of s pid).after k)) → IsTrue (is_some (process_at s k))

pub record KeepsTableAndLock (p q : Process) : Type 0 where
  pub table : q.table ≡ p.table
  pub locked : q.locked ≡ p.locked

pub record HasNoTable (q : Process) : Type 0 where
  pub table : q.table ≡ None
  pub locked : q.locked ≡ false

-- without unveil, the table and the lock stay, except that an execve may remove both
abbrev pub TablesStay : Type 0
TablesStay =
    (program_of : Bytes → Option Program) (s : State) (pid : ℕ) (p q : Process) → IsValid s → process_at s pid ≡ Some p
    → IsTrue (is_pledged_without (Unveil ∷ []) p) → process_at (step program_of s pid).after pid ≡ Some q
    → KeepsTableAndLock p q ⊎ (IsTrue (begins_image (next p) (step program_of s pid).outcome) × HasNoTable q)

-- a call reads a file, changes a file or reports a node by its own descriptor
pub data ByOwnDescriptor (s : State) (p : Process) (call : Call) : Touch → Type 0 where
  reads_by : (f : ℕ) → HasDescriptor s p call reads f → ByOwnDescriptor s p call (read_file f)
  changes_by : (f : ℕ) → HasDescriptor s p call writes f → ByOwnDescriptor s p call (change_file f)
  reports_by : (n : ℕ) → HasDescriptor s p call (if lists_names call then reads else any_mode s p call) n → ByOwnDescriptor s p call (report_node n)

-- whether a process is pledged and has no promise that governs a call, except stdio
abbrev pub is_pledged_to_stdio : Process → Bool
is_pledged_to_stdio = is_pledged_without (Rpath ∷ Wpath ∷ Cpath ∷ Proc ∷ Exec ∷ Unveil ∷ [])

abbrev pub WalksNowhere : Type 0
WalksNowhere = (p : Process) (call : Call) → IsTrue (is_pledged_to_stdio p) → missing_promise p.promises (needs call) ≡ None → walks_of call ≡ []

-- with only stdio, each touch of a step reads a file, changes a file or reports a node by the call's own descriptor
abbrev pub TouchesByDescriptor : Type 0
TouchesByDescriptor =
    (program_of : Bytes → Option Program) (s : State) (pid : ℕ) (p : Process) (touch : Touch) → IsValid s → process_at s pid ≡ Some p
    → IsTrue (is_pledged_to_stdio p) → Touches program_of s pid touch → (call : Call) × (next p ≡ calls_for call) × ByOwnDescriptor s p call touch

-- the first missing promise decides: it kills, or under `error` the call fails with ENOSYS; nothing else kills
pub record MissingPromiseDecides (program_of : Bytes → Option Program) (s : State) (pid : ℕ) (p : Process) (call : Call) : Type 0 where
  pub reported : (a : Promise) → missing_promise p.promises (needs call) ≡ Some a → IsTrue (is_lenient p.promises) → (step program_of s pid).outcome ≡ Failed ENOSYS (ByPromise a)
  pub killed : (a : Promise) → missing_promise p.promises (needs call) ≡ Some a → IsFalse (is_lenient p.promises) → (step program_of s pid).outcome ≡ Killed a
  pub else_lives : (a : Promise) → (step program_of s pid).outcome ≡ Killed a → (missing_promise p.promises (needs call) ≡ Some a) × IsFalse (is_lenient p.promises)

abbrev pub MissingPromisesDecide : Type 0
MissingPromisesDecide =
    (program_of : Bytes → Option Program) (s : State) (pid : ℕ) (p : Process) (call : Call) → process_at s pid ≡ Some p → next p ≡ calls_for call
    → MissingPromiseDecides program_of s pid p call

-- under `error`, a process is never killed, and its pledge never fails with EPERM
abbrev pub ErrorNeverKills : Type 0
ErrorNeverKills =
    (program_of : Bytes → Option Program) (s : State) (pid : ℕ) (p : Process) (a : Promise) → process_at s pid ≡ Some p
    → IsTrue (is_lenient p.promises) → ¬ ((step program_of s pid).outcome ≡ Killed a)

abbrev pub ErrorNarrowsPledge : Type 0
ErrorNarrowsPledge =
    (program_of : Bytes → Option Program) (s : State) (pid : ℕ) (p : Process) (promises execpromises : Option Bytes) (cause : Cause) → process_at s pid ≡ Some p
    → IsTrue (is_lenient p.promises) → next p ≡ calls_for (Pledge promises execpromises) → ¬ ((step program_of s pid).outcome ≡ Failed EPERM cause)
