-- The input and output of a command: it is read first, and then its output is written.
use Rattle.std.specs.Prelude.{◌≡◌, ◌⊎◌, ⊤, ℕ, Option, None, Some, Result, Ok, Err, OnOk}
use Rattle.std.specs.Borrow.{Bor}
use Rattle.std.specs.Global.{Vec}
use Rattle.pv_model.specs.declared.stream.Sink.{Ghosts as Writing}
use Rattle.pv_model.specs.declared.stream.Source.{Ghosts as Reading}
use Rattle.pv_model.specs.Machine.{Bytes}
use Rattle.pv_questions.specs.Answered.{WritesAnswer, BuffersNothing}
use Rattle.pv_questions.specs.Answers.{answer_by, compared_to, noted_at}
use Rattle.pv_questions.specs.Schedules.{turns_text}
use Rattle.pv_questions.specs.declared.failure.Failure.{Failure}
use Rattle.pv_questions.specs.declared.failure.Failure.TheVariants.{Memory}
use Rattle.pv_questions.specs.declared.input.Format.{Format}
use Rattle.pv_questions.specs.declared.input.Input.{Input}
use Rattle.pv_questions.specs.declared.input.Turns.{Turns}
use Rattle.pv_questions.specs.declared.question.Question.{Question}
use Rattle.pv_questions.specs.declared.input.Turns.TheVariants as turns
use Rattle.pv_cli_commands.specs.Directories.{ExportsInput, ImportsDirectory}
use Rattle.pv_cli_commands.specs.Reading.{IsInput, ReadsInputs, first_named, second_named, settled_question, settled_schedule}
use Rattle.pv_cli_commands.specs.Streams.{Disk, Host}
use Rattle.pv_cli_commands.specs.Writing.{MakesImageFile, MigratesFile, RunsFiles, WritesSource}
use Rattle.pv_cli_commands.specs.declared.command.Asking.{Asking}
use Rattle.pv_cli_commands.specs.declared.command.Command.{Command}
use Rattle.pv_cli_commands.specs.declared.command.Command.TheVariants.{Ask, Compare, WriteSource, MakeImage, RunImage, MigrateImage, ImportDirectory, ExportImage}
use Rattle.pv_cli_commands.specs.declared.command.ScheduleInput.{ScheduleInput}
use Rattle.pv_cli_commands.specs.declared.command.ScheduleInput.TheVariants.{Own, File, Turns as AsTurns, Fair}
use Rattle.pv_cli_commands.specs.declared.reading.Form.TheVariants.{Given}
use Rattle.pv_cli_commands.specs.declared.reading.Inputs.{Inputs}
use Rattle.pv_cli_commands.specs.declared.reading.Named.{Named}
use Rattle.pv_cli_commands.specs.declared.system.HostSystem.{HostSystem}

-- the schedule is this text
abbrev pub HasText : Bytes → Turns → Type 0
HasText text (turns.Text read) = read.items ≡ text
HasText text turned = ⊥

-- the schedule of a question is the one that the command names, or that was read
abbrev pub IsScheduleOf : ScheduleInput → Vec ℕ → Turns → Type 0
IsScheduleOf Own read turned = turned ≡ turns.Own
IsScheduleOf Fair read turned = turned ≡ turns.Fair
IsScheduleOf (File name) read turned = turned ≡ turns.Text read
IsScheduleOf (AsTurns text) read turned = HasText (turns_text text.now) turned

-- a question was answered, under a schedule, and the notes are those beside its answer
pub record AsksUnder {O : Type 0} (writing : Writing O) (question : Question) (input : Input) (turned : Turns) (steps : Option ℕ) (before after : O) (notes : Bytes)
    (result : Result (Unit {0}) Failure) : Type 0 where
  pub answered : WritesAnswer writing (answer_by input.format input.bytes.items turned steps question) before after result
  pub noted : OnOk result (noted_at input.format input.bytes.items turned steps question ≡ Ok notes)

-- a question was answered, under its schedule; or there was no memory for the schedule, and nothing was written
abbrev pub AsksQuestion : {O : Type 0} → Writing O → Asking → Inputs → O → O → Bytes → Result (Unit {0}) Failure → Type 0
AsksQuestion writing asking inputs before after notes result =
    ((turned : Turns) × IsScheduleOf (settled_schedule asking.question asking.schedule inputs.first.format) inputs.second.bytes turned
    × AsksUnder writing (settled_question asking.question asking.schedule inputs.first.format) inputs.first turned asking.steps before after notes result)
    ⊎ ((result ≡ Err Memory) × (after ≡ before))

module _ {F R V T I O E : Type 0} (disk : Disk F R V) (host : Host F T) (writing : Writing O) (reporting : Writing E) where
  -- the command wrote its output, from these inputs
  abbrev pub WritesCommandOutput : Command → Inputs → HostSystem F I O E → HostSystem F I O E → Result (Unit {0}) Failure → Type 0
  WritesCommandOutput (Ask asking) inputs before after result = ⊤
  WritesCommandOutput (Compare first second pairs) inputs before after result = WritesAnswer writing (compared_to pairs inputs.first inputs.second) before.output after.output result
  WritesCommandOutput (WriteSource source kind) inputs before after result =
      WritesSource writing reporting kind source.now inputs.first before.output after.output before.errors after.errors result
  WritesCommandOutput (MakeImage manifest image) inputs before after result = MakesImageFile disk inputs.first image.now result
  WritesCommandOutput (RunImage image schedule out) inputs before after result = RunsFiles disk writing inputs.first inputs.second out.now before.output after.output result
  WritesCommandOutput (MigrateImage image out blocks inodes) inputs before after result = MigratesFile disk inputs.first out.now blocks inodes result
  WritesCommandOutput (ImportDirectory import) inputs before after result =
      ImportsDirectory disk reporting (host.entries before.files) import inputs.first before.errors after.errors result
  WritesCommandOutput (ExportImage file directory) inputs before after result = ExportsInput host reporting directory.now inputs.first before.errors after.errors result

  -- the same, with the notes on the answer to a question; other commands leave the notes as they are
  abbrev pub WritesNoted : Command → Inputs → HostSystem F I O E → HostSystem F I O E → (old new : Bytes) → Result (Unit {0}) Failure → Type 0
  WritesNoted (Ask asking) inputs before after old new result = AsksQuestion writing asking inputs before.output after.output new result
  WritesNoted command inputs before after old new result = WritesCommandOutput command inputs before after result × (new ≡ old)

  -- the inputs of the command were read, and it wrote its output; or they were not read, and nothing was written
  abbrev pub WritesFrom : Command → Result Inputs Failure → HostSystem F I O E → HostSystem F I O E → (old new : Bytes) → Result (Unit {0}) Failure → Type 0
  WritesFrom command (Ok inputs) before after old new result = WritesNoted command inputs before after old new result
  WritesFrom command (Err failure) before after old new result = (result ≡ Err failure) × (after ≡ before)

-- the inputs of the command were read, and then it wrote its output
abbrev pub Performs : {F R V T I O E : Type 0} → Disk F R V → Host F T → Reading I → Writing O → Writing E → Command → HostSystem F I O E → HostSystem F I O E → (old new : Bytes)
    → Result (Unit {0}) Failure → Type 0
Performs {F} {R} {V} {T} {I} {O} {E} disk host reading writing reporting command before after old new result =
    (inputs : Result Inputs Failure) × (middle : HostSystem F I O E) × ReadsInputs disk reading reporting command before middle inputs
    × WritesFrom disk host writing reporting command inputs middle after old new result

-- if the output had no buffered bytes, it has none afterwards, unless a write failed
abbrev pub LeavesFlushed : {W : Type 0} → Writing W → W → W → Result (Unit {0}) Failure → Type 0
LeavesFlushed writing before after result = writing.buffered before ≡ 0 → BuffersNothing result (writing.buffered after)

-- the command writes only to a file, or makes a directory
abbrev pub WritesFile : Command → Type 0
WritesFile (MakeImage manifest image) = ⊤
WritesFile (MigrateImage image out blocks inodes) = ⊤
WritesFile (ImportDirectory import) = ⊤
WritesFile (ExportImage file directory) = ⊤
WritesFile command = ⊥

-- a file that is read is not the standard input
abbrev pub IsReadFromFile : Option Named → Type 0
IsReadFromFile None = ⊤
IsReadFromFile (Some named) = IsInput named → ⊥

-- the command reads only files
abbrev pub ReadsFiles : Command → Type 0
ReadsFiles command = IsReadFromFile (first_named command) × ((format : Format) → IsReadFromFile (second_named command format))

-- no file of the command is translated
abbrev pub IsTakenAsGiven : Option Named → Type 0
IsTakenAsGiven None = ⊤
IsTakenAsGiven (Some named) = (format : Format) × (named.form ≡ Given format)

-- the command reports nothing on the standard error itself
abbrev pub KeepsErrors : Command → Type 0
KeepsErrors (WriteSource source kind) = ⊥
KeepsErrors (ImportDirectory import) = ⊥
KeepsErrors (ExportImage file directory) = ⊥
KeepsErrors command = IsTakenAsGiven (first_named command) × ((format : Format) → IsTakenAsGiven (second_named command format))
