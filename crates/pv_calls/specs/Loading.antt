-- Calls that need memory: only an execve that has a program to load.
use Rattle.std.specs.Prelude.{◌≡◌, ◌⊎◌, ℕ, None, Some}
use Rattle.pv_model.specs.declared.call.Call.{Call}
use Rattle.pv_model.specs.declared.call.Call.TheVariants.{Execve}
use Rattle.pv_model.specs.declared.errno.Errno.TheVariants.{ENOEXEC}
use Rattle.pv_model.specs.declared.outcome.Cause.TheVariants.{Plain}
use Rattle.pv_model.specs.declared.outcome.Outcome.{Outcome}
use Rattle.pv_model.specs.declared.outcome.Outcome.TheVariants.{Value, Failed}
use Rattle.pv_model.specs.Machine.{needs, missing_promise, Process, State, process_at}
use Rattle.pv_calls_path.specs.Execve.{LeadsToProgram}

-- the call is an execve that leads to an executable file that the table of the process allows
abbrev pub Loads : State → Process → Call → Type 0
Loads s me (Execve path) = LeadsToProgram s me path
Loads s me call = ⊥

-- the same for a process that is given by its number, if it is live
abbrev pub LoadsIfLive : State → ℕ → Call → Type 0
LoadsIfLive s pid call = (me : Process) → process_at s pid ≡ Some me → Loads s me call

-- the call of a live process is allowed by its promises, and is an execve that leads to an executable file that its
-- table allows
pub record LoadsProgram (s : State) (pid : ℕ) (call : Call) : Type 0 where
  pub me : Process
  pub lives : process_at s pid ≡ Some me
  pub promised : missing_promise me.promises (needs call) ≡ None
  pub loads : Loads s me call

-- the possible outcomes of such a call: the program is loaded, or the file does not parse as a program
abbrev pub IsOfLoading : Outcome → Type 0
IsOfLoading outcome = (outcome ≡ Value 0) ⊎ (outcome ≡ Failed ENOEXEC Plain)
