-- The next step of a process.
use Rattle.std.specs.Prelude.{◌≡◌, ◌⊎◌, ℕ, zero, suc, true, false, Option, None, Some}
use Rattle.pv_model.specs.declared.call_ref.CallRef.{CallRef}
use Rattle.pv_model.specs.Machine.{call_of, inside, calls_for, next, Process}
use Rattle.pv_script.specs.Context.{Context, is_inside}
use Rattle.pv_script.specs.Passing.{Passes}
use Rattle.pv_procs.specs.declared.processes.Fetched.{Fetched}
use Rattle.pv_procs.specs.declared.processes.Fetched.TheVariants.{Gone, Register, Call}
use Rattle.pv_procs.specs.ProcessTable.{ProcessTable, process_in, table_with_process}

abbrev pub context_of : Process → Context
context_of p = record { line = p.line; registers = p.registers; buffer = p.buffer }

-- a process is live, and its next step is this call
abbrev pub CallsNext : CallRef → Option Process → Type 0
CallsNext call lives = (me : Process) × (lives ≡ Some me) × (next me ≡ calls_for (call_of call))

-- the next step of a process is a call, if the process is live
abbrev pub AwaitsCall : Option Process → Type 0
AwaitsCall lives = (me : Process) → lives ≡ Some me → is_inside me.program (context_of me) ≡ false

-- a process is live, and its next step is an instruction on registers or a jump
abbrev pub RegisterNext : Option Process → Type 0
RegisterNext lives = (me : Process) × (lives ≡ Some me) × (is_inside me.program (context_of me) ≡ true)

-- the next step of a process, or Gone if it is not live
abbrev pub IsFetched : Fetched → Option Process → Type 0
IsFetched Gone lives = lives ≡ None
IsFetched Register lives = RegisterNext lives
IsFetched (Call call) lives = CallsNext call lives

-- the next step of a process is not a call, or the process is not live
abbrev pub NoCallNext : Option Process → Type 0
NoCallNext lives = (lives ≡ None) ⊎ RegisterNext lives

-- the next step of a process, if it is a call
abbrev pub IsNextCall : Option CallRef → Option Process → Type 0
IsNextCall (Some call) lives = CallsNext call lives
IsNextCall None lives = NoCallNext lives

-- only one live process changes, by this relation
pub record Moves (by : Process → Process → Type 0) (pid : ℕ) (old new : ProcessTable) : Type 0 where
  pub me : Process
  pub lives : process_in old pid ≡ Some me
  pub after : Process
  pub step : by me after
  pub only : new ≡ table_with_process old pid after

-- the next instruction on registers or jump of a live process was executed
abbrev pub PerformsInside : ℕ → ProcessTable → ProcessTable → Type 0
PerformsInside pid old new = Moves (λ me after. next me ≡ inside after) pid old new

-- the next n instructions on registers and jumps of a live process were executed; nothing changes if n is 0
abbrev pub PassesIn : ℕ → ℕ → ProcessTable → ProcessTable → Type 0
PassesIn zero pid old new = new ≡ old
PassesIn (suc n) pid old new = Moves (Passes (suc n)) pid old new

-- the next step of a process was executed if it is an instruction on registers or a jump; otherwise nothing changed
abbrev pub Registered : Fetched → ℕ → ProcessTable → ProcessTable → Type 0
Registered Gone pid old new = (process_in old pid ≡ None) × (new ≡ old)
Registered Register pid old new = PerformsInside pid old new
Registered (Call call) pid old new = CallsNext call (process_in old pid) × (new ≡ old)
