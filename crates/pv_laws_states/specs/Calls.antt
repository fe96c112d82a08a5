-- Laws of system calls.
use Rattle.std.specs.Prelude.{◌≡◌, ◌≢◌, ℕ, suc, negsuc, Bool, true, false, IsTrue, IsFalse, length, List, Option, None, Some}
use Rattle.std.specs.FinMap.Entries.{find}
use Rattle.std.specs.Ordering.{nat_cmp}
use Rattle.pv_model.specs.declared.limits.TheConstants.{LAST_PROCESS}
use Rattle.pv_model.specs.declared.call.Call.{Call}
use Rattle.pv_model.specs.declared.call.Call.TheVariants.{Exit, Pledge, Fork}
use Rattle.pv_model.specs.declared.errno.Errno.{Errno}
use Rattle.pv_model.specs.declared.outcome.Cause.{Cause}
use Rattle.pv_model.specs.declared.outcome.Outcome.TheVariants.{Value, Failed, Killed, Blocked, Gone}
use Rattle.pv_model.specs.declared.promise.Promise.{Promise}
use Rattle.pv_model.specs.Machine.{Answered, answer, at_next_line, Bytes, with_result, errno_number, needs, Promises, missing_promise, Program, Process, State, process_at, with_process, with_content, is_past_greatest, among, is_too_long, is_file, Tree, node_at}
use Rattle.pv_laws_trees.specs.Preserved.{preserved}

-- a process after a refused call: at its next line, with the error in r0 and r1
abbrev pub reported_error : Process → Errno → Process
reported_error p e = with_result (at_next_line p) (negsuc 0) (errno_number e)

-- only the caller changes, to the process after a refused call
abbrev pub OnlyReports : State → ℕ → Errno → State → Type 0
OnlyReports s pid e after = (me : Process) × (process_at s pid ≡ Some me) × (after ≡ with_process s pid (reported_error me e))

-- a refused call changes only its caller's line and result registers
abbrev pub RefusedOnlyReports : Type 0
RefusedOnlyReports =
    (program_of : Bytes → Option Program) (s : State) (pid : ℕ) (call : Call) (e : Errno) (c : Cause)
    → (answer program_of s pid call).outcome ≡ Failed e c → OnlyReports s pid e (answer program_of s pid call).after

-- the rights of a process and their objects are unchanged
pub record SameRights (p q : Process) : Type 0 where
  pub promises : q.promises ≡ p.promises
  pub execpromises : q.execpromises ≡ p.execpromises
  pub table : q.table ≡ p.table
  pub locked : q.locked ≡ p.locked
  pub directory : q.directory ≡ p.directory
  pub descriptors : q.descriptors ≡ p.descriptors
  pub program : q.program ≡ p.program
  pub buffer : q.buffer ≡ p.buffer
  pub parent : q.parent ≡ p.parent

-- the tree, the open files, the last process number and the other processes are unchanged, and the caller has the same
-- rights
pub record IsUnharmed (s : State) (pid : ℕ) (after : State) : Type 0 where
  pub tree : after.tree ≡ s.tree
  pub files : after.files ≡ s.files
  pub last_process : after.last_process ≡ s.last_process
  pub others : (q : ℕ) → q ≢ pid → find nat_cmp q after.processes ≡ find nat_cmp q s.processes
  pub caller : (p : Process) → process_at s pid ≡ Some p → (q : Process) × (process_at after pid ≡ Some q) × SameRights p q

-- a refused call leaves all rights unchanged
abbrev pub RefusedIsUnharmed : Type 0
RefusedIsUnharmed =
    (program_of : Bytes → Option Program) (s : State) (pid : ℕ) (call : Call) (e : Errno) (c : Cause)
    → (answer program_of s pid call).outcome ≡ Failed e c → IsUnharmed s pid (answer program_of s pid call).after

-- a call that waits leaves the state unchanged
abbrev pub BlockedLeavesState : Type 0
BlockedLeavesState =
    (program_of : Bytes → Option Program) (s : State) (pid : ℕ) (call : Call)
    → (answer program_of s pid call).outcome ≡ Blocked → (answer program_of s pid call).after ≡ s

-- the answer to a process that is not live: the state is unchanged
pub record IsOfNoProcess (s : State) (pid : ℕ) (a : Answered) : Type 0 where
  pub not_live : process_at s pid ≡ None
  pub leaves : a.after ≡ s
  pub no_walks : a.walks ≡ 0

abbrev pub GoneLeavesState : Type 0
GoneLeavesState =
    (program_of : Bytes → Option Program) (s : State) (pid : ℕ) (call : Call)
    → (answer program_of s pid call).outcome ≡ Gone → IsOfNoProcess s pid (answer program_of s pid call)

-- the calls that need no promise
abbrev pub needs_nothing : Call → Bool
needs_nothing (Exit status) = true
needs_nothing (Pledge promises execpromises) = true
needs_nothing call = false

-- these calls are answered under every set of promises
abbrev pub AlwaysAnswered : Type 0
AlwaysAnswered = (held : Option Promises) (call : Call) → IsTrue (needs_nothing call) → missing_promise held (needs call) ≡ None

-- under the empty set, every other call kills the process
abbrev pub OthersKill : Type 0
OthersKill =
    (program_of : Bytes → Option Program) (s : State) (pid : ℕ) (p : Process) (call : Call)
    → process_at s pid ≡ Some p → p.promises ≡ Some 0 → IsFalse (needs_nothing call)
    → (missing : Promise) × ((answer program_of s pid call).outcome ≡ Killed missing)

-- a new process has the number after the last one given, which is at most 99,999
pub record IsNewNumber (s : State) (n : ℕ) (after : State) : Type 0 where
  pub next : n ≡ suc s.last_process
  pub preserved : after.last_process ≡ n
  pub within : IsTrue (Rattle.std.specs.Prelude.nat_le n LAST_PROCESS)

abbrev pub NextNumber : Type 0
NextNumber =
    (program_of : Bytes → Option Program) (s : State) (pid n : ℕ)
    → (answer program_of s pid Fork).outcome ≡ Value n → IsNewNumber s n (answer program_of s pid Fork).after

-- a file length that the early test refuses makes the tree too long, if the file is referenced
abbrev pub LargeIsTooLong : Type 0
LargeIsTooLong =
    (t : Tree) (f : ℕ) (bytes : Bytes) (held : List ℕ)
    → IsTrue (is_file (node_at t f)) → IsTrue (among held f) → IsTrue (is_past_greatest t (length bytes))
    → IsTrue (is_too_long (preserved (with_content t f bytes) held))
