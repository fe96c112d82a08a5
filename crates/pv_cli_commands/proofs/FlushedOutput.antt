-- What a run, the output for a source and an answer leave buffered.
use Rattle.std.proofs.Common.{◌≡◌, ◌∙◌, ap, sym, subst, refl, inl, inr, ℕ, Result, Ok, Err}
use Rattle.std.specs.Prelude.{IfErr, OnOk}
use Rattle.pv_model.specs.declared.run_fault.RunFault.{RunFault}
use Rattle.pv_model.specs.declared.run_fault.RunFault.TheVariants as run
use Rattle.pv_model.specs.declared.stream.Sink.{Ghosts as Writing}
use Rattle.pv_model.specs.Machine.{Bytes}
use Rattle.pv_questions.specs.Answered.{BuffersNothing}
use Rattle.pv_questions.specs.Failures.{failure_of_run}
use Rattle.pv_questions.specs.OfRun.Run.{BufferedOnlyIfCut}
use Rattle.pv_questions.specs.OfRun.declared.turns.Summary.{Summary}
use Rattle.pv_questions.specs.declared.failure.Failure.{Failure}
use Rattle.pv_questions.specs.declared.failure.Target.TheVariants.{Output}
use Rattle.pv_questions.specs.declared.input.Input.{Input}
use Rattle.pv_source.specs.Given.{WritesOutput}
use Rattle.pv_source.specs.declared.source.Output.{Output as SourceOutput}
use Rattle.pv_source.specs.declared.source.SourceStop.{SourceStop}
use Rattle.pv_source.specs.declared.source.SourceStop.TheVariants as stop
use Rattle.pv_cli_commands.specs.Streams.{Disk}
use Rattle.pv_cli_commands.specs.Writing.{Becomes, RunsFiles, WritesSource, of_source}
use Rattle.pv_cli_commands.specs.Commands.{AsksQuestion}
use Rattle.pv_cli_commands.specs.declared.command.Asking.{Asking}
use Rattle.pv_cli_commands.specs.declared.reading.Inputs.{Inputs}
use Rattle.pv_cli_commands.proofs.CommandStatus.{buffers_nothing}

fault-flushed : (fault : RunFault) (waiting : ℕ) → BufferedOnlyIfCut fault waiting → BuffersNothing {T = Unit {0}} (Err (failure_of_run fault)) waiting
fault-flushed run.Read waiting h = h
fault-flushed run.Memory waiting h = h
fault-flushed run.WriteTrace waiting h = tt
fault-flushed run.WriteImage waiting h = tt
fault-flushed (run.Image fault) waiting h = buffers_nothing (Err (failure_of_run (run.Image fault))) waiting h
fault-flushed (run.Manifest fault) waiting h = buffers_nothing (Err (failure_of_run (run.Manifest fault))) waiting h
fault-flushed (run.Schedule n) waiting h = h
fault-flushed (run.Init n) waiting h = h

run-flushed : (before waiting : ℕ) (end : Result Summary RunFault) (result : Result (Unit {0}) Failure) → Becomes failure_of_run end result → OnOk end (waiting ≡ 0)
    → IfErr end (λ fault. before ≡ 0 → BufferedOnlyIfCut fault waiting) → before ≡ 0 → BuffersNothing result waiting
run-flushed before waiting (Ok summary) (Ok done) is empty stopped h = empty
run-flushed before waiting (Ok summary) (Err failure) is empty stopped h = absurd is
run-flushed before waiting (Err fault) (Ok done) is empty stopped h = absurd is
run-flushed before waiting (Err fault) (Err failure) is empty stopped h =
    subst (λ (f : Failure). BuffersNothing {T = Unit {0}} (Err f) waiting) (sym is) (fault-flushed fault waiting (stopped h))

-- a run leaves nothing buffered, unless a write failed
pub runs_flushed : {F R V W : Type 0} (disk : Disk F R V) (tracing : Writing W) (image schedule : Input) (out : Bytes) (trace trace_new : W) (result : Result (Unit {0}) Failure)
    → RunsFiles disk tracing image schedule out trace trace_new result → tracing.buffered trace ≡ 0 → BuffersNothing result (tracing.buffered trace_new)
runs_flushed disk tracing image schedule out trace trace_new result (inl w) h =
    run-flushed (tracing.buffered trace) (tracing.buffered trace_new) w.3.0 result w.3.2 w.3.1.empty w.3.1.stopped h
runs_flushed disk tracing image schedule out trace trace_new result (inr w) h = buffers_nothing result (tracing.buffered trace_new) (ap (λ t. tracing.buffered t) w.1 ∙ h)

module _ {W E : Type 0} (writing : Writing W) (reporting : Writing E) (output : SourceOutput) (name : Bytes) where
  source-flushed : (source : Bytes) (before after : W) (unreported reported : E) (end : Result (Unit {0}) SourceStop) (result : Result (Unit {0}) Failure)
      → WritesOutput writing reporting output name source before after unreported reported end → Becomes (of_source Output) end result
      → writing.buffered before ≡ 0 → BuffersNothing result (writing.buffered after)
  source-flushed source before after unreported reported (Ok done) (Ok end) w is h = w.empty
  source-flushed source before after unreported reported (Ok done) (Err failure) w is h = absurd is
  source-flushed source before after unreported reported (Err stopped) (Ok end) w is h = absurd is
  source-flushed source before after unreported reported (Err stop.Memory) (Err failure) w is h =
      buffers_nothing (Err failure) (writing.buffered after) (ap (λ t. writing.buffered t) (w.stopped tt).0 ∙ h)
  source-flushed source before after unreported reported (Err stop.Refused) (Err failure) w is h =
      buffers_nothing (Err failure) (writing.buffered after) (ap (λ t. writing.buffered t) (w.unwritten refl) ∙ h)
  source-flushed source before after unreported reported (Err stop.Write) (Err failure) w is h =
      subst (λ (f : Failure). BuffersNothing {T = Unit {0}} (Err f) (writing.buffered after)) (sym is) tt

  -- the output for a source leaves nothing buffered, unless a write failed
  pub writes_flushed : (source : Input) (before after : W) (unreported reported : E) (result : Result (Unit {0}) Failure)
      → WritesSource writing reporting output name source before after unreported reported result → writing.buffered before ≡ 0 → BuffersNothing result (writing.buffered after)
  writes_flushed source before after unreported reported result w h = source-flushed source.bytes.items before after unreported reported w.0 result w.1 w.2 h

-- an answer leaves nothing buffered, unless a write failed
pub asks_flushed : {O : Type 0} (writing : Writing O) (asking : Asking) (inputs : Inputs) (before after : O) (notes : Bytes) (result : Result (Unit {0}) Failure)
    → AsksQuestion writing asking inputs before after notes result → writing.buffered before ≡ 0 → BuffersNothing result (writing.buffered after)
asks_flushed writing asking inputs before after notes result (inl w) h = w.2.answered.flushed h
asks_flushed writing asking inputs before after notes result (inr w) h = buffers_nothing result (writing.buffered after) (ap (λ t. writing.buffered t) w.1 ∙ h)
