-- The inputs of a command that were read, in order.
use Rattle.std.proofs.Common.{◌≡◌, ap, subst, refl, Option, Result, Ok, Err}
use Rattle.std.specs.Prelude.{IsErrAnd}
use Rattle.pv_model.specs.declared.stream.Sink.{Ghosts as Writing}
use Rattle.pv_model.specs.declared.stream.Source.{Ghosts as Reading}
use Rattle.pv_questions.specs.declared.failure.Failure.{Failure}
use Rattle.pv_questions.specs.declared.input.Input.{Input}
use Rattle.pv_cli_commands.specs.Reading.{Joins, ReadsInputs, ReadsNamed, first_named, second_named}
use Rattle.pv_cli_commands.specs.Streams.{Disk}
use Rattle.pv_cli_commands.specs.declared.command.Command.{Command}
use Rattle.pv_cli_commands.specs.declared.reading.Inputs.{Inputs}
use Rattle.pv_cli_commands.specs.declared.reading.Named.{Named}
use Rattle.pv_cli_commands.specs.declared.system.HostSystem.{HostSystem}

-- a result with this failure
pub failed : (failure : Failure) (result : Result Inputs Failure) → IsErrAnd result (λ e. e ≡ failure) → result ≡ Err failure
failed failure (Ok inputs) is = absurd is
failed failure (Err e) is = ap (λ (f : Failure). Err f) is

module _ {F R V I O E : Type 0} (disk : Disk F R V) (reading : Reading I) (reporting : Writing E) (asked : Command) (before middle after : HostSystem F I O E) where
  -- the first input was not read
  pub reads_none : (named : Option Named) (failure : Failure) (result : Result Inputs Failure) → named ≡ first_named asked
      → ReadsNamed disk reading reporting named before middle (Err failure) → result ≡ Err failure → ReadsInputs disk reading reporting asked before middle result
  reads_none named failure result is reads stopped =
      (middle, Err failure, subst (λ n. ReadsNamed disk reading reporting n before middle (Err failure)) is reads, (stopped, refl))

  -- the first input was read, and then the second, or not
  pub reads_both : (named next : Option Named) (first : Input) (second : Result Input Failure) (result : Result Inputs Failure) → named ≡ first_named asked
      → next ≡ second_named asked first.format → ReadsNamed disk reading reporting named before middle (Ok first) → ReadsNamed disk reading reporting next middle after second
      → Joins first second result → ReadsInputs disk reading reporting asked before after result
  reads_both named next first second result is follows reads reads_next joins = (
    middle,
    Ok first,
    subst (λ n. ReadsNamed disk reading reporting n before middle (Ok first)) is reads,
    (second, subst (λ n. ReadsNamed disk reading reporting n middle after second) follows reads_next, joins),
  )
