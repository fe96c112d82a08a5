-- The result of a complete run of the program.
use Rattle.std.specs.Prelude.{◌≡◌, ◌≢◌, ◌⊎◌, ℕ, Bool, true, false, ◌&&◌, not, List, [], ◌∷◌, codes, Result, Ok, Err, IsOk, IsErr}
use Rattle.pv_model.specs.declared.stream.Failed.{Failed}
use Rattle.pv_model.specs.declared.stream.Sink.{Ghosts as Writing}
use Rattle.pv_model.specs.declared.stream.Source.{Ghosts as Reading}
use Rattle.pv_model.specs.Machine.{Bytes}
use Rattle.pv_cli_commands.specs.declared.command.Command.{Command}
use Rattle.pv_cli_commands.specs.OfQuestions.declared.failure.Failure.{Failure}
use Rattle.pv_cli_commands.specs.OfQuestions.declared.failure.Failure.TheVariants.{Refused}
use Rattle.pv_cli_commands.specs.declared.system.HostSystem.{HostSystem}
use Rattle.pv_cli_commands.specs.Commands.{LeavesFlushed, KeepsErrors, Performs, ReadsFiles, WritesFile}
use Rattle.pv_cli_commands.specs.Created.{CreatesOnly, directory_made, file_written}
use Rattle.pv_cli_commands.specs.OfQuestions.Failures.{is_reported_by_command}
use Rattle.pv_cli_commands.specs.Streams.{Disk, Host}
use Rattle.pv_streams.specs.Sinks.{Writes}
use Rattle.pv_cli_line.specs.declared.command.LineFault.{LineFault}
use Rattle.pv_cli_line.specs.declared.command.LineFault.TheVariants.{Number}
use Rattle.pv_cli_line.specs.declared.fault.Fault.{Fault}
use Rattle.pv_cli_line.specs.declared.fault.Fault.TheVariants.{Command as OfCommand, Line, Words}
use Rattle.pv_cli_line.specs.Line.{IsAsked, RefusesLine, is_verbose_line}
use Rattle.pv_cli_line.specs.Messages.{WritesMessage, WritesMore}
use Rattle.pv_cli_line.specs.Status.{exit_status_of}

-- only the output on the standard error is new
abbrev pub WritesErrorsAlone : {F I O E : Type 0} → HostSystem F I O E → HostSystem F I O E → Type 0
WritesErrorsAlone before after = after ≡ record before { errors = after.errors }

-- only the output on the standard output is new
abbrev pub WritesOutputAlone : {F I O E : Type 0} → HostSystem F I O E → HostSystem F I O E → Type 0
WritesOutputAlone before after = after ≡ record before { output = after.output }

-- only a message on the standard error is new: a prefix of it, if a write of it failed
pub record WritesError {F I O E : Type 0} (reporting : Writing E) (before after : HostSystem F I O E) : Type 0 where
  pub alone : WritesErrorsAlone before after
  pub written : Result (Unit {0}) Failed
  pub message : WritesMessage reporting before.errors after.errors written

-- help or the version was written to the standard output and flushed, with status 0; or a write of it failed, and this
-- was reported on the standard error, with status 4
pub record Shows {F I O E : Type 0} (writing : Writing O) (reporting : Writing E) (before after : HostSystem F I O E) (status : ℕ) : Type 0 where
  pub written : Result (Unit {0}) Failed
  pub shown : HostSystem F I O E
  pub alone : WritesOutputAlone before shown
  pub message : WritesMessage writing before.output shown.output written
  pub whole : IsOk written → (status ≡ 0) × (after ≡ shown)
  pub cut : IsErr written → (status ≡ 4) × WritesError reporting shown after

-- the command already reported the error
abbrev pub is_reported : Fault → Bool
is_reported (OfCommand fault) = is_reported_by_command fault
is_reported fault = false

-- an error can be explained: it is not yet reported, or the entries of an import or the lines of a source are refused
abbrev pub is_explained : Failure → Bool
is_explained (Refused refusal) = true
is_explained failure = not (is_reported_by_command failure)

-- an error was reported: nothing is new if it is already reported; otherwise its message was written, to the standard
-- error or, for help and the version, to the standard output
pub record ReportsError {F I O E : Type 0} (writing : Writing O) (reporting : Writing E) (fault : Fault) (before after : HostSystem F I O E) (status : ℕ)
    : Type 0 where
  pub status_is : exit_status_of fault ≢ 0 → status ≡ exit_status_of fault
  pub reported : is_reported fault ≡ true → (after ≡ before) × (status ≡ exit_status_of fault)
  pub error : is_reported fault ≡ false → exit_status_of fault ≢ 0 → WritesError reporting before after
  pub shows : is_reported fault ≡ false → exit_status_of fault ≡ 0 → Shows writing reporting before after status

-- more lines were written to the standard error, if they are requested
pub record Explains {F I O E : Type 0} (reporting : Writing E) (requested : Bool) (before after : HostSystem F I O E) : Type 0 where
  pub alone : WritesErrorsAlone before after
  pub lines : WritesMore reporting before.errors after.errors
  pub unrequested : requested ≡ false → after ≡ before

-- an error was reported, with an explanation if it is requested
pub record ReportsAll {F I O E : Type 0} (writing : Writing O) (reporting : Writing E) (fault : Fault) (requested : Bool) (before after : HostSystem F I O E)
    (status : ℕ) : Type 0 where
  pub middle : HostSystem F I O E
  pub reports : ReportsError writing reporting fault before middle status
  pub explains : Explains reporting requested middle after

-- notes were written to the standard error, if they are requested: a prefix of them, if a write failed
pub record WritesNotes {F I O E : Type 0} (reporting : Writing E) (requested : Bool) (notes : Bytes) (before after : HostSystem F I O E) : Type 0 where
  pub alone : WritesErrorsAlone before after
  pub written : Result (Unit {0}) Failed
  pub text : requested ≡ true → Writes reporting notes before.errors after.errors written
  pub unrequested : requested ≡ false → after ≡ before
  pub silent : notes ≡ [] → after ≡ before

-- the words ask for a command, which was carried out and changed nothing else; its output is flushed
pub record Runs {F R V T I O E : Type 0} (disk : Disk F R V) (host : Host F T) (reading : Reading I) (writing : Writing O) (reporting : Writing E)
    (words : List Bytes) (notes : Bytes) (before after : HostSystem F I O E) (result : Result (Unit {0}) Failure) : Type 0 where
  pub command : Command
  pub asked : IsAsked words command
  pub does : Performs disk host reading writing reporting command before after [] notes result
  pub flushed : LeavesFlushed writing before.output after.output result
  pub unread : ReadsFiles command → after.input ≡ before.input
  pub silent : WritesFile command → after.output ≡ before.output
  pub unreported : KeepsErrors command → after.errors ≡ before.errors
  pub created : CreatesOnly (file_written command) (disk.files.created before.files) (disk.files.created after.files)
  pub targets : CreatesOnly (directory_made command) (host.targets before.files) (host.targets after.files)

-- an argument is not a number
abbrev pub is_number_error : LineFault → Bool
is_number_error Number = true
is_number_error fault = false

-- the words ask for a command, which was carried out, with status 0, and the notes on its answer were written unless
-- the words have the flag `quiet`; or it ended early, or the words are refused, and
-- the error was reported, with its status
abbrev pub ComesTo : {F R V T I O E : Type 0} → Disk F R V → Host F T → Reading I → Writing O → Writing E → List Bytes → HostSystem F I O E → HostSystem F I O E → ℕ
    → Result (Unit {0}) Fault → Type 0
ComesTo {F} {R} {V} {T} {I} {O} {E} disk host reading writing reporting words before after status (Ok done) =
    (ended : HostSystem F I O E) × (notes : Bytes) × (status ≡ 0) × Runs disk host reading writing reporting words notes before ended (Ok done)
    × WritesNotes reporting (is_verbose_line words) notes ended after
ComesTo {F} {R} {V} {T} {I} {O} {E} disk host reading writing reporting words before after status (Err (OfCommand fault)) =
    (ended : HostSystem F I O E) × (notes : Bytes) × Runs disk host reading writing reporting words notes before ended (Err fault)
    × ReportsAll writing reporting (OfCommand fault) (is_verbose_line words && is_explained fault) ended after status
ComesTo disk host reading writing reporting words before after status (Err (Line fault)) =
    RefusesLine words fault × ReportsAll writing reporting (Line fault) (is_number_error fault) before after status
ComesTo disk host reading writing reporting words before after status (Err Words) = ⊥

-- the words are the name of the program and a request for help or the version
abbrev pub IsRequest : List Bytes → Type 0
IsRequest (program ∷ word ∷ []) = (word ≡ codes "--help") ⊎ ((word ≡ codes "-h") ⊎ ((word ≡ codes "--version") ⊎ (word ≡ codes "-V")))
IsRequest words = ⊥

-- help or the version was shown, or there was no memory for it
abbrev pub EndsRequest : {F I O E : Type 0} → Writing O → Writing E → HostSystem F I O E → HostSystem F I O E → ℕ → Type 0
EndsRequest writing reporting before after status = (status ≡ 3) ⊎ Shows writing reporting before after status

-- the result of a complete run, with its status
abbrev pub EndsWith : {F R V T I O E : Type 0} → Disk F R V → Host F T → Reading I → Writing O → Writing E → List Bytes → HostSystem F I O E → HostSystem F I O E → ℕ → Type 0
EndsWith disk host reading writing reporting words before after status =
    (result : Result (Unit {0}) Fault) × ComesTo disk host reading writing reporting words before after status result
