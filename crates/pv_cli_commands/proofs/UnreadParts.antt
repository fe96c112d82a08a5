-- What the reading of inputs leaves unchanged.
use Rattle.std.proofs.Common.{◌≡◌, ◌∙◌, ap, sym, subst, refl, Option, None, Some, Result, Ok, Err}
use Rattle.std.specs.Global.{Vec}
use Rattle.std.specs.Prelude.{ℕ}
use Rattle.pv_model.specs.declared.stream.Sink.{Ghosts as Writing}
use Rattle.pv_model.specs.declared.stream.Source.{Ghosts as Reading}
use Rattle.pv_model.specs.Machine.{Bytes}
use Rattle.pv_questions.specs.declared.failure.Failure.{Failure}
use Rattle.pv_questions.specs.declared.input.Format.{Format}
use Rattle.pv_questions.specs.declared.input.Input.{Input}
use Rattle.pv_cli_commands.specs.Commands.{IsReadFromFile, IsTakenAsGiven, KeepsErrors, ReadsFiles}
use Rattle.pv_cli_commands.specs.Reading.{ReadsAfter, ReadsInputs, ReadsNamed, TakesAs, TakesBytes, TakesInput, TakesRead, first_named, second_named}
use Rattle.pv_cli_commands.specs.Streams.{Disk}
use Rattle.pv_cli_commands.specs.declared.command.Command.{Command}
use Rattle.pv_cli_commands.specs.declared.command.Command.TheVariants.{Ask, Compare, WriteSource, MakeImage, RunImage, MigrateImage, ImportDirectory, ExportImage}
use Rattle.pv_cli_commands.specs.declared.reading.Form.{Form}
use Rattle.pv_cli_commands.specs.declared.reading.Inputs.{Inputs}
use Rattle.pv_cli_commands.specs.declared.reading.Named.{Named}
use Rattle.pv_cli_commands.specs.declared.system.HostSystem.{HostSystem}

-- only the standard input and the standard error differ
abbrev HasRestOf : {F I O E : Type 0} → HostSystem F I O E → HostSystem F I O E → Type 0
HasRestOf before after = after ≡ record before { input = after.input; errors = after.errors }

bytes-silent : {E : Type 0} (format : Format) (bytes : Bytes) (unreported reported : E) (result : Result Input Failure) → TakesBytes format bytes unreported reported result
    → reported ≡ unreported
bytes-silent format bytes unreported reported (Ok input) takes = takes.2
bytes-silent format bytes unreported reported (Err failure) takes = absurd takes

-- nothing is reported about a file that is taken as it is
given-silent : {E : Type 0} (reporting : Writing E) (named : Named) (bytes : Bytes) (unreported reported : E) (result : Result Input Failure) → IsTakenAsGiven (Some named)
    → TakesInput reporting named bytes unreported reported result → reported ≡ unreported
given-silent reporting named bytes unreported reported result given takes =
    bytes-silent given.0 bytes unreported reported result
    (subst (λ (form : Form). TakesAs reporting form named.name.now bytes unreported reported result) given.1 takes)

module _ {F R V I O E : Type 0} (disk : Disk F R V) (reading : Reading I) (reporting : Writing E) where
  rest-kept : (before after : HostSystem F I O E) → after ≡ before → HasRestOf before after
  rest-kept before after is = subst (λ (s : HostSystem F I O E). s ≡ record before { input = s.input; errors = s.errors }) (sym is) refl

  rest-kept-twice : (before middle after : HostSystem F I O E) → HasRestOf before middle → HasRestOf middle after → HasRestOf before after
  rest-kept-twice before middle after first second =
      subst (λ (s : HostSystem F I O E). after ≡ record s { input = after.input; errors = after.errors }) first second

  -- ---- one file

  named-rest : (named : Option Named) (before after : HostSystem F I O E) (result : Result Input Failure) → ReadsNamed disk reading reporting named before after result
      → HasRestOf before after
  named-rest None before after result reads = rest-kept before after reads.2
  named-rest (Some named) before after result reads = reads.3

  named-unread : (named : Option Named) (before after : HostSystem F I O E) (result : Result Input Failure) → IsReadFromFile named
      → ReadsNamed disk reading reporting named before after result → after.input ≡ before.input
  named-unread None before after result file reads = ap (λ (s : HostSystem F I O E). s.input) reads.2
  named-unread (Some named) before after result file reads = reads.1.input file

  read-silent : (named : Named) (read : Result (Vec ℕ) Failure) (before after : HostSystem F I O E) (result : Result Input Failure) → IsTakenAsGiven (Some named)
      → TakesRead disk reading reporting named read before after result → after.errors ≡ before.errors
  read-silent named (Ok bytes) before after result given takes = given-silent reporting named bytes.items before.errors after.errors result given takes
  read-silent named (Err failure) before after result given takes = takes.1

  named-silent : (named : Option Named) (before after : HostSystem F I O E) (result : Result Input Failure) → IsTakenAsGiven named
      → ReadsNamed disk reading reporting named before after result → after.errors ≡ before.errors
  named-silent None before after result given reads = ap (λ (s : HostSystem F I O E). s.errors) reads.2
  named-silent (Some named) before after result given reads = read-silent named reads.0 before after result given reads.2

  -- ---- both inputs

  after-rest : (command : Command) (middle after : HostSystem F I O E) (first : Result Input Failure) (result : Result Inputs Failure)
      → ReadsAfter disk reading reporting command middle after first result → HasRestOf middle after
  after-rest command middle after (Ok first) result reads = named-rest (second_named command first.format) middle after reads.0 reads.1
  after-rest command middle after (Err failure) result reads = rest-kept middle after reads.1

  after-unread : (command : Command) (middle after : HostSystem F I O E) (first : Result Input Failure) (result : Result Inputs Failure) → ReadsFiles command
      → ReadsAfter disk reading reporting command middle after first result → after.input ≡ middle.input
  after-unread command middle after (Ok first) result files reads = named-unread (second_named command first.format) middle after reads.0 (files.1 first.format) reads.1
  after-unread command middle after (Err failure) result files reads = ap (λ (s : HostSystem F I O E). s.input) reads.1

  after-silent : (command : Command) (middle after : HostSystem F I O E) (first : Result Input Failure) (result : Result Inputs Failure)
      → ((format : Format) → IsTakenAsGiven (second_named command format)) → ReadsAfter disk reading reporting command middle after first result → after.errors ≡ middle.errors
  after-silent command middle after (Ok first) result given reads = named-silent (second_named command first.format) middle after reads.0 (given first.format) reads.1
  after-silent command middle after (Err failure) result given reads = ap (λ (s : HostSystem F I O E). s.errors) reads.1

  inputs-silent : (command : Command) (before after : HostSystem F I O E) (result : Result Inputs Failure)
      → IsTakenAsGiven (first_named command) × ((format : Format) → IsTakenAsGiven (second_named command format))
      → ReadsInputs disk reading reporting command before after result → after.errors ≡ before.errors
  inputs-silent command before after result given reads =
      after-silent command reads.0 after reads.1 result given.1 reads.3 ∙ named-silent (first_named command) before reads.0 reads.1 given.0 reads.2

  module _ (command : Command) (before after : HostSystem F I O E) (result : Result Inputs Failure) (reads : ReadsInputs disk reading reporting command before after result) where
    inputs-rest : HasRestOf before after
    inputs-rest =
        rest-kept-twice before reads.0 after (named-rest (first_named command) before reads.0 reads.1 reads.2) (after-rest command reads.0 after reads.1 result reads.3)

    -- the files and the standard output
    pub inputs-files : after.files ≡ before.files
    inputs-files = ap (λ (s : HostSystem F I O E). s.files) inputs-rest

    pub inputs-output : after.output ≡ before.output
    inputs-output = ap (λ (s : HostSystem F I O E). s.output) inputs-rest

    -- the standard input, if only files are read
    pub inputs-unread : ReadsFiles command → after.input ≡ before.input
    inputs-unread files =
        after-unread command reads.0 after reads.1 result files reads.3 ∙ named-unread (first_named command) before reads.0 reads.1 files.0 reads.2

  -- the standard error, if no source is translated
  pub inputs-unreported : (command : Command) (before after : HostSystem F I O E) (result : Result Inputs Failure) → KeepsErrors command
      → ReadsInputs disk reading reporting command before after result → after.errors ≡ before.errors
  inputs-unreported (Ask asking) before after result keeps reads = inputs-silent (Ask asking) before after result keeps reads
  inputs-unreported (Compare first second pairs) before after result keeps reads = inputs-silent (Compare first second pairs) before after result keeps reads
  inputs-unreported (WriteSource source kind) before after result keeps reads = absurd keeps
  inputs-unreported (MakeImage manifest image) before after result keeps reads = inputs-silent (MakeImage manifest image) before after result keeps reads
  inputs-unreported (RunImage image schedule out) before after result keeps reads = inputs-silent (RunImage image schedule out) before after result keeps reads
  inputs-unreported (MigrateImage image out blocks inodes) before after result keeps reads = inputs-silent (MigrateImage image out blocks inodes) before after result keeps reads
  inputs-unreported (ImportDirectory import) before after result keeps reads = absurd keeps
  inputs-unreported (ExportImage file directory) before after result keeps reads = absurd keeps
