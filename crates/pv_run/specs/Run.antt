-- The input of a run, and its result.
use Rattle.std.specs.Prelude.{◌≡◌, ◌⊎◌, ⊤, ℕ, length, Option, Some, Result, Ok, Err, IfErr, IfOk, IfSome, OnOk}
use Rattle.pv_model.specs.declared.fault.ManifestFault.TheVariants.{Memory as ManifestMemory}
use Rattle.pv_model.specs.declared.run_fault.RunFault.{RunFault}
use Rattle.pv_model.specs.declared.run_fault.RunFault.TheVariants.{Read, Manifest, Schedule as ScheduleLine, Init, Memory, WriteTrace}
use Rattle.pv_model.specs.declared.stream.Sink.{Ghosts as Writing}
use Rattle.pv_model.specs.declared.stream.Source.{Ghosts as Reading}
use Rattle.pv_model.specs.Machine.{Bytes, program_of, Started, bundle_started, State, Schedule, boot, steps_of, Rose, trace_bytes}
use Rattle.pv_laws_runs.specs.Asked.{AsksOfBundle}
use Rattle.pv_session.specs.Running.{run_of}
use Rattle.pv_session.specs.Stopping.{StopsAtExecve}
use Rattle.pv_streams.specs.Sinks.{and_all, WritesPrefix}
use Rattle.pv_streams.specs.Sources.{FailsToGive}
use Rattle.pv_run.specs.declared.turns.Summary.{Summary}

-- the start of a run
abbrev pub started_from : State → Schedule → Started
started_from state schedule = record { state = state; schedule = schedule }

-- the text of the machine's run
abbrev pub text_of : Started → Bytes
text_of it = trace_bytes (run_of it.state it.schedule).lines

-- the summary counts the steps and the lines of a run
pub record IsSummaryOf (it : Started) (summary : Summary) : Type 0 where
  pub steps : summary.steps ≡ length (steps_of it.schedule)
  pub lines : summary.lines ≡ length (run_of it.state it.schedule).lines

-- this is the text of a run: the machine starts from the input, the text has the lines of its run, and the summary
-- counts the steps and the lines
pub record IsTextOf (asked : Result Started RunFault) (text : Bytes) (summary : Summary) : Type 0 where
  pub it : Started
  pub is_asked : asked ≡ Ok it
  pub is_machine : boot program_of it.state.tree ≡ Some it.state
  pub text_is : text ≡ text_of it
  pub counts : IsSummaryOf it summary

-- the run of a bundle was made: the entries of its manifest make a tree on which the machine boots, the lines after it
-- parse as a schedule, and the output grew by exactly the text of the machine's run; the summary counts the steps and
-- the lines
pub record HasRun (bytes : Bytes) (before after : Option Bytes) (summary : Summary) : Type 0 where
  pub it : Started
  pub asks : AsksOfBundle bytes it
  pub written : after ≡ and_all before (text_of it)
  pub counts : IsSummaryOf it summary
  -- it is the start that the checks yield
  pub is_asked : bundle_started bytes ≡ Ok it

-- a failed write was counted if a line could not be written, and none was counted if memory was refused
abbrev pub StopsBy : RunFault → ℕ → ℕ → Type 0
StopsBy Memory before after = after ≡ before
StopsBy WriteTrace before after = Rose before after
StopsBy fault before after = ⊥

-- a prefix of the text of a run was written
pub record HasBegun (asked : Result Started RunFault) (before after : Option Bytes) : Type 0 where
  pub text : Bytes
  pub summary : Summary
  pub is_run : IsTextOf asked text summary
  pub written : WritesPrefix text before after

-- a run stopped before an execve that leads to an executable file that the table of the process allows; exactly the
-- lines of the earlier steps were written
pub record HasStopped (asked : Result Started RunFault) (before after : Option Bytes) : Type 0 where
  pub it : Started
  pub now : State
  pub is_asked : asked ≡ Ok it
  pub is_machine : boot program_of it.state.tree ≡ Some it.state
  pub stops : StopsAtExecve (steps_of it.schedule) it.state now before after

-- during a run, memory is needed only there
abbrev pub IsOutOfMemoryAtExecve : RunFault → Schedule → State → State → Option Bytes → Option Bytes → Type 0
IsOutOfMemoryAtExecve Memory schedule s now before after = StopsAtExecve (steps_of schedule) s now before after
IsOutOfMemoryAtExecve fault schedule s now before after = ⊤

-- the first refusal of the input, or a run that stopped
abbrev pub AppearsIn : Result Started RunFault → Option Bytes → Option Bytes → RunFault → Type 0
AppearsIn asked before after WriteTrace = HasBegun asked before after
AppearsIn asked before after Read = ⊤
AppearsIn asked before after Memory = (after ≡ before) ⊎ HasStopped asked before after
AppearsIn asked before after fault = asked ≡ Err fault

-- the possible errors of the start on a tree
abbrev pub IsErrorOnTree : RunFault → Type 0
IsErrorOnTree (ScheduleLine n) = ⊤
IsErrorOnTree (Init n) = ⊤
IsErrorOnTree Memory = ⊤
IsErrorOnTree fault = ⊥

-- the possible errors of the start of a bundle's run; out of memory is not nested in another error
abbrev pub IsStartError : RunFault → Type 0
IsStartError (Manifest ManifestMemory) = ⊥
IsStartError (Manifest fault) = ⊤
IsStartError (ScheduleLine n) = ⊤
IsStartError (Init n) = ⊤
IsStartError Memory = ⊤
IsStartError fault = ⊥

-- the possible errors of a run of a bundle
abbrev pub IsBundleError : RunFault → Type 0
IsBundleError Read = ⊤
IsBundleError WriteTrace = ⊤
IsBundleError fault = IsStartError fault

-- nothing was written, unless the trace could not be written completely, or a step needed memory
abbrev pub WritesNothingUnlessCut : Option Bytes → Option Bytes → RunFault → Type 0
WritesNothingUnlessCut before after WriteTrace = ⊤
WritesNothingUnlessCut before after Memory = ⊤
WritesNothingUnlessCut before after fault = after ≡ before

-- the whole trace is flushed, unless it could not be written
abbrev pub BufferedOnlyIfCut : RunFault → ℕ → Type 0
BufferedOnlyIfCut WriteTrace waiting = ⊤
BufferedOnlyIfCut fault waiting = waiting ≡ 0

-- the error is the one of the checks, except for out of memory
abbrev pub RefusesStart : {A : Type 0} → RunFault → Result A RunFault → Type 0
RefusesStart Memory asked = ⊤
RefusesStart fault asked = asked ≡ Err fault

-- ---- contracts of functions that run

-- the condition on the bytes of two sources, if both are known
abbrev pub IfBoth : Option Bytes → Option Bytes → (Bytes → Bytes → Type 0) → Type 0
IfBoth first second holds = IfSome first (λ bytes. IfSome second (λ text. holds bytes text))

-- one of two sources failed, or gave more bytes than allowed
abbrev pub EitherFailsToGive : {A B : Type 0} → Reading A → Reading B → (first last : A) → (second second_last : B) → Type 0
EitherFailsToGive reading other first last second second_last = FailsToGive reading first last ⊎ FailsToGive other second second_last

-- a bundle was run: `given` is the condition on its bytes if they are known, and `Unread` states that a read failed
pub record RunsGiven {W : Type 0} (sink : Writing W) (given : (Bytes → Type 0) → Type 0) (Unread : Type 0) (old new : W) (result : Result Summary RunFault) : Type 0 where
  -- success: the trace grew by exactly the text of the machine's run
  pub ran : IfOk result (λ summary. given (λ bytes. HasRun bytes (sink.written old) (sink.written new) summary))
  -- failure: the error is the first of the bytes, or the trace could not be written completely
  pub refused : IfErr result (λ fault. given (λ bytes. AppearsIn (bundle_started bytes) (sink.written old) (sink.written new) fault))
  pub kind : IfErr result IsBundleError
  pub unwritten : IfErr result (WritesNothingUnlessCut (sink.written old) (sink.written new))
  pub empty : OnOk result (sink.buffered new ≡ 0)
  pub stopped : IfErr result (λ fault. sink.buffered old ≡ 0 → BufferedOnlyIfCut fault (sink.buffered new))
  -- a failed read or write was counted
  pub read : result ≡ Err Read → Unread
  pub write : result ≡ Err WriteTrace → Rose (sink.failures old) (sink.failures new)

-- the bundle that a source gives was run
abbrev pub RunsBundle : {S W : Type 0} → Reading S → Writing W → (first last : S) → (old new : W) → Result Summary RunFault → Type 0
RunsBundle reading sink first last old new result = RunsGiven sink (IfSome (reading.remaining first)) (FailsToGive reading first last) old new result
