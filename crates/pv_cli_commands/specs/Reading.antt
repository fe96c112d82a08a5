-- The inputs of a command, as they were read.
use Rattle.std.specs.Prelude.{◌≡◌, ◌⊎◌, ◌<◌, ℕ, true, false, MatchBool, [], codes, length, Option, None, Some, Result, Ok, Err, IfErr, IfOk, IfSome}
use Rattle.std.specs.Borrow.{Bor}
use Rattle.std.specs.Global.{Vec}
use Rattle.pv_model.specs.declared.stream.Sink.{Ghosts as Writing}
use Rattle.pv_model.specs.declared.stream.Source.{Ghosts as Reading}
use Rattle.pv_model.specs.declared.limits.TheConstants.{SOURCE_BYTES}
use Rattle.pv_model.specs.Machine.{Bytes}
use Rattle.pv_questions.specs.Formats.{is_source}
use Rattle.pv_questions.specs.declared.failure.Failure.{Failure}
use Rattle.pv_questions.specs.declared.failure.Failure.TheVariants.{Read, Memory}
use Rattle.pv_questions.specs.declared.failure.Origin.TheVariants.{File as InFile}
use Rattle.pv_questions.specs.declared.failure.Target.TheVariants.{Errors}
use Rattle.pv_questions.specs.declared.input.Format.{Format}
use Rattle.pv_questions.specs.declared.input.Format.TheVariants.{Image, Text}
use Rattle.pv_questions.specs.declared.input.Input.{Input}
use Rattle.pv_questions.specs.declared.question.Question.{Question}
use Rattle.pv_questions.specs.declared.question.Question.TheVariants.{Audit, Reasons}
use Rattle.pv_source.specs.Given.{TranslatesSource}
use Rattle.pv_source.specs.declared.source.SourceStop.{SourceStop}
use Rattle.pv_streams.specs.Sources.{FailsToGive}
use Rattle.pv_cli_commands.specs.Streams.{Disk, IsOpened, IsUnknown}
use Rattle.pv_cli_commands.specs.Writing.{of_source}
use Rattle.pv_cli_commands.specs.declared.command.Command.{Command}
use Rattle.pv_cli_commands.specs.declared.command.Command.TheVariants as command
use Rattle.pv_cli_commands.specs.declared.command.InputFile.{InputFile}
use Rattle.pv_cli_commands.specs.declared.command.InputFile.TheVariants as input
use Rattle.pv_cli_commands.specs.declared.command.ScheduleInput.{ScheduleInput}
use Rattle.pv_cli_commands.specs.declared.command.ScheduleInput.TheVariants.{Own, File, Turns, Fair}
use Rattle.pv_cli_commands.specs.declared.reading.Form.{Form}
use Rattle.pv_cli_commands.specs.declared.reading.Form.TheVariants.{Any, Source, Given}
use Rattle.pv_cli_commands.specs.declared.reading.Inputs.{Inputs}
use Rattle.pv_cli_commands.specs.declared.reading.Named.{Named}
use Rattle.pv_cli_commands.specs.declared.system.HostSystem.{HostSystem}

-- ---- the files of a command

abbrev pub plain_named : Bor Bytes → Format → Named
plain_named name format = record { name = name; form = Given format; has_input = false }

abbrev pub input_named : InputFile → Named
input_named (input.Any name) = record { name = name; form = Any; has_input = true }
input_named (input.Bundle name) = record { name = name; form = Given Text; has_input = true }
input_named (input.Source name) = record { name = name; form = Source; has_input = true }

abbrev pub source_named : Option (Bor Bytes) → Option Named
source_named None = None
source_named (Some name) = Some (input_named (input.Source name))

abbrev pub first_named : Command → Option Named
first_named (command.Ask asking) = Some (input_named asking.input)
first_named (command.Compare first second pairs) = Some (input_named first)
first_named (command.ExportImage file directory) = Some (input_named file)
first_named (command.WriteSource source kind) = Some (input_named (input.Bundle source))
first_named (command.ImportDirectory import) = source_named import.source
first_named (command.MakeImage manifest image) = Some (plain_named manifest Text)
first_named (command.RunImage image schedule out) = Some (plain_named image Image)
first_named (command.MigrateImage image out blocks inodes) = Some (plain_named image Image)

-- the path of an audit of an image, if no schedule is given, is the file of the schedule
abbrev pub misplaced : Question → ScheduleInput → Format → Option (Bor Bytes)
misplaced (Audit path) Own Image = path
misplaced (Reasons path) Own Image = path
misplaced question schedule format = None

abbrev pub settled_schedule : Question → ScheduleInput → Format → ScheduleInput
settled_schedule (Audit (Some name)) Own Image = File name
settled_schedule (Reasons (Some name)) Own Image = File name
settled_schedule question schedule format = schedule

abbrev pub settled_question : Question → ScheduleInput → Format → Question
settled_question (Audit (Some name)) Own Image = Audit None
settled_question (Reasons (Some name)) Own Image = Reasons None
settled_question question schedule format = question

abbrev pub schedule_named : ScheduleInput → Option Named
schedule_named (File name) = Some (record { name = name; form = Given Text; has_input = true })
schedule_named schedule = None

abbrev pub second_named : Command → Format → Option Named
second_named (command.Ask asking) format = schedule_named (settled_schedule asking.question asking.schedule format)
second_named (command.Compare first second pairs) format = Some (input_named second)
second_named (command.RunImage image schedule out) format = Some (plain_named schedule Text)
second_named other format = None

-- ---- what is read

-- the bytes are an input of this format, and nothing was reported
abbrev pub TakesBytes : {E : Type 0} → Format → Bytes → E → E → Result Input Failure → Type 0
TakesBytes format bytes unreported reported (Ok input) = (input.format ≡ format) × (input.bytes.items ≡ bytes) × (reported ≡ unreported)
TakesBytes format bytes unreported reported (Err failure) = ⊥

-- the translation of a source is an input, or has too many bytes for one
abbrev pub TakesText : Vec ℕ → Result Input Failure → Type 0
TakesText text (Ok input) = (input.format ≡ Text) × (input.bytes ≡ text)
TakesText text (Err failure) = (failure ≡ Read InFile) × (SOURCE_BYTES < length text.items)

abbrev pub TakesTranslation : Result (Vec ℕ) SourceStop → Result Input Failure → Type 0
TakesTranslation (Ok text) result = TakesText text result
TakesTranslation (Err stop) result = result ≡ Err (of_source Errors stop)

-- a source was translated, and its warnings or its lines in error were reported under its name
abbrev pub TakesSource : {E : Type 0} → Writing E → Bytes → Bytes → E → E → Result Input Failure → Type 0
TakesSource reporting name bytes unreported reported result =
    (translated : Result (Vec ℕ) SourceStop) × TranslatesSource reporting name bytes unreported reported translated × TakesTranslation translated result

-- bytes became the input that the file with a name and a form is
abbrev pub TakesAs : {E : Type 0} → Writing E → Form → Bytes → Bytes → E → E → Result Input Failure → Type 0
TakesAs reporting Any name bytes unreported reported result =
    MatchBool (is_source bytes) (TakesSource reporting name bytes unreported reported result) (TakesBytes Image bytes unreported reported result)
TakesAs reporting Source name bytes unreported reported result = TakesSource reporting name bytes unreported reported result
TakesAs reporting (Given format) name bytes unreported reported result = TakesBytes format bytes unreported reported result

abbrev pub TakesInput : {E : Type 0} → Writing E → Named → Bytes → E → E → Result Input Failure → Type 0
TakesInput reporting named bytes unreported reported result = TakesAs reporting named.form named.name.now bytes unreported reported result

-- both inputs, or the failure of the second
abbrev pub Joins : Input → Result Input Failure → Result Inputs Failure → Type 0
Joins first (Ok second) result = result ≡ Ok (record { first = first; second = second })
Joins first (Err failure) result = result ≡ Err failure

-- the standard input, and not a file
abbrev pub IsInput : Named → Type 0
IsInput named = (named.has_input ≡ true) × (named.name.now ≡ codes "-")

module _ {F R V I : Type 0} (disk : Disk F R V) (reading : Reading I) (files : F) (named : Named) where
  -- these bytes were read, if they are known
  abbrev pub Gave : I → Bytes → Type 0
  Gave before bytes =
      (IsInput named → IfSome (reading.remaining before) (λ all. all ≡ bytes))
      × ((IsInput named → ⊥) → IfSome (disk.files.bytes files named.name.now) (λ all. all ≡ bytes))

  -- a file whose bytes are not known could not be opened, or an opened file could not be read
  abbrev pub IsUnreadFile : Type 0
  IsUnreadFile =
      IsUnknown disk files named.name.now ⊎ ((first last : R) × IsOpened disk files named.name.now first × FailsToGive disk.reading first last)

  -- a read failed, which was counted, or the input has too many bytes
  abbrev pub Unread : I → I → Type 0
  Unread before after = (IsInput named × FailsToGive reading before after) ⊎ ((IsInput named → ⊥) × IsUnreadFile)

  -- the bytes of a file, or of the standard input, were read
  pub record ReadsNamedBytes (before after : I) (result : Result (Vec ℕ) Failure) : Type 0 where
    pub gave : IfOk result (λ bytes. Gave before bytes.items)
    pub kind : IfErr result (λ failure. (failure ≡ Read InFile) ⊎ (failure ≡ Memory))
    pub unread : result ≡ Err (Read InFile) → Unread before after
    pub input : (IsInput named → ⊥) → after ≡ before

module _ {F R V I O E : Type 0} (disk : Disk F R V) (reading : Reading I) (reporting : Writing E) where
  -- only the standard input and the standard error change
  abbrev pub KeepsRest : HostSystem F I O E → HostSystem F I O E → Type 0
  KeepsRest before after = after ≡ record before { input = after.input; errors = after.errors }

  -- what was read became an input; or it was not read, and nothing was reported
  abbrev pub TakesRead : Named → Result (Vec ℕ) Failure → HostSystem F I O E → HostSystem F I O E → Result Input Failure → Type 0
  TakesRead named (Ok bytes) before after result = TakesInput reporting named bytes.items before.errors after.errors result
  TakesRead named (Err failure) before after result = (result ≡ Err failure) × (after.errors ≡ before.errors)

  -- a file was read, if there is one; otherwise the input is empty
  abbrev pub ReadsNamed : Option Named → HostSystem F I O E → HostSystem F I O E → Result Input Failure → Type 0
  ReadsNamed None before after result = IfOk result (λ input. input.bytes.items ≡ []) × IfErr result (λ failure. ⊥) × (after ≡ before)
  ReadsNamed (Some named) before after result =
      (read : Result (Vec ℕ) Failure) × ReadsNamedBytes disk reading before.files named before.input after.input read × TakesRead named read before after result × KeepsRest before after

  -- the inputs of a command: the format of the first decides which file is the second; or the first failure
  abbrev pub ReadsSecond : Command → HostSystem F I O E → HostSystem F I O E → Input → Result Inputs Failure → Type 0
  ReadsSecond asked middle after first result =
      (second : Result Input Failure) × ReadsNamed (second_named asked first.format) middle after second × Joins first second result

  abbrev pub ReadsAfter : Command → HostSystem F I O E → HostSystem F I O E → Result Input Failure → Result Inputs Failure → Type 0
  ReadsAfter asked middle after (Ok first) result = ReadsSecond asked middle after first result
  ReadsAfter asked middle after (Err failure) result = (result ≡ Err failure) × (after ≡ middle)

  abbrev pub ReadsInputs : Command → HostSystem F I O E → HostSystem F I O E → Result Inputs Failure → Type 0
  ReadsInputs asked before after result =
      (middle : HostSystem F I O E) × (first : Result Input Failure) × ReadsNamed (first_named asked) before middle first × ReadsAfter asked middle after first result
