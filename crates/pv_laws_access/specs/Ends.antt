-- Laws of the end of a process by exit(3) or by a kill: the records and files that remain.
use Rattle.std.specs.Prelude.{◌≡◌, ◌≢◌, ℕ, zero, suc, ℤ, if◌then◌else◌, ◌==◌, Option, None, Some, is_some}
use Rattle.std.specs.FinMap.Entries.{find}
use Rattle.std.specs.Ordering.{nat_cmp}
use Rattle.pv_model.specs.declared.call.Call.TheVariants.{Exit}
use Rattle.pv_model.specs.declared.outcome.Outcome.TheVariants.{Killed}
use Rattle.pv_model.specs.declared.promise.Promise.{Promise}
use Rattle.pv_model.specs.Machine.{Bytes, at_number, calls_for, next, OpenFile, Program, Process, ProcessRecord, ended_record, State, process_at, step, find_entry}
use Rattle.pv_model.specs.Calls.Processes.{exit_status}
use Rattle.pv_laws_states.specs.States.{IsValid}

-- the process that adopts the children of a process that ends: process 1, or nobody (0) if that ends or has ended
abbrev pub heir : State → ℕ → ℕ
heir s pid = if pid == 1 then 0 else if is_some (process_at s 1) then 1 else 0

-- the parent of a process after the end of process `pid`
abbrev pub new_parent : State → ℕ → ℕ → ℕ
new_parent s pid parent = if parent == pid then heir s pid else parent

-- the record of an ended process, or None if no process will wait for it
abbrev pub record_left : ℕ → ℕ → Option ProcessRecord
record_left zero status = None
record_left (suc parent) status = Some (ended_record (suc parent) status)

-- the state after the end of a process
pub record IsEnded (s after : State) (pid : ℕ) (p : Process) (status : ℕ) : Type 0 where
  pub itself : find nat_cmp pid after.processes ≡ record_left (new_parent s pid p.parent) status
  pub live : (k : ℕ) (q : Process) → k ≢ pid → process_at s k ≡ Some q → process_at after k ≡ Some (record q { parent = new_parent s pid q.parent })
  pub ended : (k parent left : ℕ) → k ≢ pid → find nat_cmp k s.processes ≡ Some (ended_record parent left) → find nat_cmp k after.processes ≡ record_left (new_parent s pid parent) left
  pub none_else : (k : ℕ) → k ≢ pid → find nat_cmp k s.processes ≡ None → find nat_cmp k after.processes ≡ None
  pub entries : (d : ℕ) (name : Bytes) → find_entry after.tree d name ≡ find_entry s.tree d name
  pub files : (k : ℕ) (file : OpenFile) → at_number after.files k ≡ Some file → at_number s.files k ≡ Some file
  pub last_process : after.last_process ≡ s.last_process

-- an exit leaves this state, with the status of its code
abbrev pub ExitsLeave : Type 0
ExitsLeave =
    (program_of : Bytes → Option Program) (s : State) (pid : ℕ) (p : Process) (code : ℤ) → IsValid s → process_at s pid ≡ Some p
    → next p ≡ calls_for (Exit code) → IsEnded s (step program_of s pid).after pid p (exit_status code)

-- a kill leaves this state, with the status of SIGABRT
abbrev pub KillsLeave : Type 0
KillsLeave =
    (program_of : Bytes → Option Program) (s : State) (pid : ℕ) (p : Process) (a : Promise) → IsValid s → process_at s pid ≡ Some p
    → (step program_of s pid).outcome ≡ Killed a → IsEnded s (step program_of s pid).after pid p 6
