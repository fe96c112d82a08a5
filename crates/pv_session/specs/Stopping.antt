-- The point at which out of memory can stop a run: before an execve that leads to a program.
use Rattle.std.specs.Prelude.{◌≡◌, ⊤, ℕ, List, ◌∷◌, ◌++◌, Option, None, Some}
use Rattle.pv_calls.specs.Loading.{LoadsProgram}
use Rattle.pv_model.specs.declared.call.Call.{Call}
use Rattle.pv_model.specs.Machine.{Bytes, program_of, calls_for, next, Process, State, process_at, run}
use Rattle.pv_model.specs.Step.{run_text}
use Rattle.pv_streams.specs.declared.stop.Stop.{Stop}
use Rattle.pv_streams.specs.declared.stop.Stop.TheVariants.{Memory, Write}
use Rattle.pv_streams.specs.Sinks.{and_all}

-- the next step of a process is an execve that leads to an executable file that its table allows
pub record NextLoads (s : State) (pid : ℕ) : Type 0 where
  pub me : Process
  pub call : Call
  pub lives : process_at s pid ≡ Some me
  pub comes : next me ≡ calls_for call
  pub loads : LoadsProgram s pid call

-- the steps before an execve of this kind were made, and their text was written
pub record StopsAtLoad (text : List ℕ → State → Bytes) (pids : List ℕ) (s now : State) (before after : Option Bytes) : Type 0 where
  pub made : List ℕ
  pub pid : ℕ
  pub rest : List ℕ
  pub all : pids ≡ made ++ pid ∷ rest
  pub left : now ≡ (run program_of made s).final
  pub as_written : after ≡ and_all before (text made s)
  pub loads : NextLoads now pid

-- out of memory stops a run only there
abbrev pub StopsIn : (List ℕ → State → Bytes) → Stop → List ℕ → State → State → Option Bytes → Option Bytes → Type 0
StopsIn text Memory pids s now before after = StopsAtLoad text pids s now before after
StopsIn text Write pids s now before after = ⊤

-- the same for a run whose trace is written
abbrev pub StopsAtExecve : List ℕ → State → State → Option Bytes → Option Bytes → Type 0
StopsAtExecve = StopsAtLoad (run_text program_of)

abbrev pub StopsOn : Stop → List ℕ → State → State → Option Bytes → Option Bytes → Type 0
StopsOn = StopsIn (run_text program_of)

-- the same for steps whose lines are not written
abbrev pub StopsUnread : List ℕ → State → State → Type 0
StopsUnread pids s now = StopsAtExecve pids s now None None
