-- The command in the words of a command line.
use Rattle.std.specs.Prelude.{◌≡◌, ◌≢◌, ◌⊎◌, ⊤, ℕ, ◌<◌, Bool, ◌&&◌, ◌||◌, not, nat_le, true, false, if◌then◌else◌, bytes_eq, IsTrue, is_some, List, [], ◌∷◌, ◌++◌, length, filter_map, codes, Option, None, Some, IfSome, option_map, unwrap_or, Result, Ok, Err}
use Rattle.std.specs.Borrow.{Bor}
use Rattle.std.specs.List.{list_all, list_any}
use Rattle.std.specs.Option.{IsSomeAnd}
use Rattle.clap.specs.Words.{Row, Text, IsAmong, all_of, fault_of, first_of, kind_of, matches_of, subcommand_of, takes}
use Rattle.clap.specs.declared.error.Error.{Error}
use Rattle.clap.specs.declared.error.kind.ErrorKind.{ErrorKind}
use Rattle.clap.specs.declared.error.kind.ErrorKind.TheVariants.{OutOfMemory, MissingRequiredArgument, ValueValidation}
use Rattle.pv_model.specs.Grammar.Arguments.{in_range}
use Rattle.pv_model.specs.Machine.{decimal_of}
use Rattle.pv_model.specs.declared.version.Version.{Version}
use Rattle.pv_model.specs.declared.version.Version.TheVariants.{V1, V2}
use Rattle.pv_cli_commands.specs.declared.command.Command.{Command}
use Rattle.pv_cli_commands.specs.declared.command.Command.TheVariants.{Ask, Compare, WriteSource, MakeImage, RunImage, MigrateImage, ImportDirectory, ExportImage}
use Rattle.pv_cli_commands.specs.declared.command.InputFile.{InputFile}
use Rattle.pv_cli_commands.specs.declared.command.InputFile.TheVariants as input
use Rattle.pv_cli_commands.specs.declared.command.ScheduleInput.{ScheduleInput}
use Rattle.pv_cli_commands.specs.declared.command.ScheduleInput.TheVariants.{Own, File as InFile, Turns as AsTurns, Fair}
use Rattle.pv_cli_commands.specs.OfQuestions.FilePaths.{paths_of}
use Rattle.pv_cli_commands.specs.OfQuestions.Schedules.{are_turns}
use Rattle.pv_cli_commands.specs.OfQuestions.declared.question.Files.{Files}
use Rattle.pv_cli_commands.specs.OfQuestions.declared.question.Question.{Question}
use Rattle.pv_cli_commands.specs.OfQuestions.declared.question.Question.TheVariants as asked
use Rattle.pv_cli_commands.specs.OfReduced.declared.kind.SearchKind.{SearchKind}
use Rattle.pv_cli_commands.specs.OfReduced.declared.kind.SearchKind.TheVariants.{Full, Reduced}
use Rattle.pv_cli_line.specs.declared.matches.NoCommand.{NoCommand}
use Rattle.pv_cli_line.specs.declared.matches.NoCommand.TheVariants as lacks
use Rattle.pv_cli_line.specs.declared.command.LineFault.{LineFault}
use Rattle.pv_cli_line.specs.declared.command.LineFault.TheVariants as line
use Rattle.pv_source.specs.declared.source.Output.{Output}
use Rattle.pv_source.specs.declared.source.Output.TheVariants.{Translation, ProgramLines}
use Rattle.pv_cli_line.specs.Parser.{pvsim_app}
use Rattle.pv_cli_line.specs.Paths.{is_plain_path}

-- the text of a flag says that it is set
abbrev pub is_given : Option Text → Bool
is_given None = false
is_given (Some text) = bytes_eq text (codes "true")

-- a flag is set, among the arguments before the name of a command or among those of the entered command
abbrev pub is_set : List Row → Text → Bool
is_set rows flag = is_given (first_of flag rows)

abbrev pub is_flag_set_in : List Row → Option (Text × List Row) → Text → Bool
is_flag_set_in above None flag = is_set above flag
is_flag_set_in above (Some p) flag = is_set above flag || is_set p.1 flag

-- errors are explained, unless the flag `quiet` is set
abbrev pub is_verbose_in : List Row → Option (Text × List Row) → Bool
is_verbose_in above entered = not (is_flag_set_in above entered (codes "quiet"))

-- the number of 32 bits that a word is, in decimal without leading zeros
unfoldable pub size_in : Text → Option ℕ
size_in word = in_range 4294967295 (decimal_of word)

-- a number of steps: from 1 to 65,536
abbrev pub if_count : Option ℕ → Option ℕ
if_count None = None
if_count (Some n) = if nat_le 1 n && nat_le n 65536 then Some n else None

-- the same, or the default if there is no word
abbrev pub count_or_default : ℕ → Option Text → Option ℕ
count_or_default default None = Some default
count_or_default default (Some word) = if_count (size_in word)

-- a number of states: at least 1
abbrev pub if_positive : Option ℕ → Option ℕ
if_positive None = None
if_positive (Some n) = if nat_le 1 n then Some n else None

-- the same, or 1,000,000 if there is no word
abbrev pub states_in : Option Text → Option ℕ
states_in None = Some 1000000
states_in (Some word) = if_positive (size_in word)

-- the version of an image: 1 if there is no word
abbrev pub version_in : Option Text → Option Version
version_in None = Some V1
version_in (Some word) = if bytes_eq word (codes "1") then Some V1 else (if bytes_eq word (codes "2") then Some V2 else None)

-- the empty predicate, and the empty relation
abbrev pub Never : {A : Type 0} → (A → Type 0) → Type 0
Never {A} holds = (x : A) → holds x → ⊥

abbrev pub NeverBoth : {A B : Type 0} → (A → B → Type 0) → Type 0
NeverBoth {A} {B} hold = (x : A) (y : B) → hold x y → ⊥

abbrev pub NeverRun : (InputFile → ScheduleInput → Option Text → Type 0) → Type 0
NeverRun hold = (file : InputFile) (schedule : ScheduleInput) (further : Option Text) → hold file schedule further → ⊥

-- ---- the words of a command: its input, and those after it

-- a word, if there is one
abbrev pub list_of : Option Text → List Text
list_of None = []
list_of (Some word) = word ∷ []

-- the words of a command besides its options; the last has this name
abbrev pub words_entered : List Row → Text → List Text
words_entered rows last = list_of (first_of (codes "FILE") rows) ++ list_of (first_of (codes "SCHEDULE") rows) ++ list_of (first_of last rows)

-- the input of a command and the words after it: a bundle or a source that an option names, or the first word
abbrev pub IsGivenBy : (bundle source : Option Text) → List Text → InputFile → List Text → Type 0
IsGivenBy bundle source words (input.Bundle name) rest = (bundle ≡ Some name.now) × (source ≡ None) × (rest ≡ words)
IsGivenBy bundle source words (input.Any name) rest =
    (bundle ≡ None) × (((source ≡ Some name.now) × (rest ≡ words)) ⊎ ((source ≡ None) × (words ≡ name.now ∷ rest)))
IsGivenBy bundle source words (input.Source name) rest = ⊥

abbrev pub IsGivenIn : List Row → Text → InputFile → List Text → Type 0
IsGivenIn rows last file rest = IsGivenBy (first_of (codes "bundle") rows) (first_of (codes "source") rows) (words_entered rows last) file rest

-- these are the words after a schedule that takes no word; `takes_last` says whether the command takes one
abbrev pub AreLast : Bool → List Text → Option Text → Type 0
AreLast takes_last words further = (words ≡ list_of further) × (takes_last ≡ false → further ≡ None)

-- the schedule of a run, and the word after it
abbrev pub IsScheduledBy : (by : Option Text) → (fair takes_last : Bool) → List Text → ScheduleInput → Option Text → Type 0
IsScheduledBy by fair takes_last words (AsTurns turns) further = (by ≡ Some turns.now) × (fair ≡ false) × AreLast takes_last words further
IsScheduledBy by fair takes_last words Fair further = (by ≡ None) × (fair ≡ true) × AreLast takes_last words further
IsScheduledBy by fair takes_last words Own further = (by ≡ None) × (fair ≡ false) × AreLast takes_last words further
IsScheduledBy by fair takes_last words (InFile name) further =
    (by ≡ None) × (fair ≡ false) × (words ≡ name.now ∷ list_of further) × (is_some further ≡ takes_last)

abbrev pub IsScheduledIn : List Row → (takes_last : Bool) → List Text → ScheduleInput → Option Text → Type 0
IsScheduledIn rows takes_last words schedule further =
    IsScheduledBy (first_of (codes "by") rows) (is_set rows (codes "turns")) takes_last words schedule further

abbrev pub input_file_name : InputFile → Text
input_file_name (input.Any name) = name.now
input_file_name (input.Bundle name) = name.now
input_file_name (input.Source name) = name.now

-- the input and the schedule are not both the standard input
abbrev pub IsReadOnce : InputFile → ScheduleInput → Type 0
IsReadOnce file (InFile name) = bytes_eq (input_file_name file) (codes "-") && bytes_eq name.now (codes "-") ≡ false
IsReadOnce file schedule = ⊤

-- the input of a question about a run, its schedule, and the word after them
pub record IsRunIn (rows : List Row) (last : Text) (takes_last : Bool) (file : InputFile) (schedule : ScheduleInput) (further : Option Text) : Type 0 where
  pub rest : List Text
  pub is_given : IsGivenIn rows last file rest
  pub is_scheduled : IsScheduledIn rows takes_last rest schedule further
  pub is_read_once : IsReadOnce file schedule

-- a word of digits
abbrev pub is_digits : Text → Bool
is_digits word = list_all (λ b. nat_le 48 b && nat_le b 57) word

-- a single word after an input of `reach` that may be an image is the schedule, unless it has only digits
abbrev pub IsMisplaced : InputFile → ScheduleInput → Option Text → Type 0
IsMisplaced (input.Any name) Own (Some word) = is_digits word ≡ false
IsMisplaced file schedule further = ⊥

abbrev pub IsReachIn : List Row → InputFile → ScheduleInput → Option Text → Type 0
IsReachIn rows file (InFile name) None =
    IsRunIn rows (codes "PID") true file Own (Some name.now) × IsMisplaced file Own (Some name.now) × IsReadOnce file (InFile name)
IsReachIn rows file schedule further = IsRunIn rows (codes "PID") true file schedule further × (IsMisplaced file schedule further → ⊥)

-- the number in a word, if there is one
abbrev pub IsNumberIn : Option Text → Option ℕ → Type 0
IsNumberIn word number = option_map size_in word ≡ option_map (λ n. Some n) number

-- a question about a tree: its schedule is not used
abbrev pub IsTreeIn : List Row → InputFile → List Text → ScheduleInput → Option ℕ → Type 0
IsTreeIn rows file rest Own None = IsGivenIn rows (codes "PATH") file rest
IsTreeIn rows file rest schedule steps = ⊥

-- the file of `run-tree`, which the flag `source` makes a source
abbrev pub IsTracedIn : List Row → InputFile → Type 0
IsTracedIn rows (input.Bundle name) = (first_of (codes "FILE") rows ≡ Some name.now) × (is_set rows (codes "source") ≡ false)
IsTracedIn rows (input.Source name) = (first_of (codes "FILE") rows ≡ Some name.now) × (is_set rows (codes "source") ≡ true)
IsTracedIn rows (input.Any name) = ⊥

abbrev pub IsTracedBy : Option Text → ScheduleInput → Type 0
IsTracedBy by (AsTurns turns) = by ≡ Some turns.now
IsTracedBy by Own = by ≡ None
IsTracedBy by schedule = ⊥

abbrev pub kind_in : List Row → SearchKind
kind_in rows = if is_set rows (codes "reduced") then Reduced else Full

-- the files of a search that were entered
abbrev pub files_entered : List Row → List Text
files_entered rows = unwrap_or (all_of (codes "file") rows) []

-- the paths that there are
abbrev pub present_paths : List (Option (Bor (List ℕ))) → List Text
present_paths paths = filter_map (λ path. option_map (λ p. p.now) path) paths

abbrev pub paths_in : Files → List Text
paths_in files = present_paths (paths_of files)

-- the reasons of errors and the lines of execve(2) are written, unless the flag `brief` is given without the flag `errors`
abbrev pub errors_entered : List Row → Bool
errors_entered rows = is_set rows (codes "errors") || not (is_set rows (codes "brief"))

-- the name of the command of a question
abbrev pub question_name : Question → Text
question_name asked.Trace = codes "run-tree"
question_name asked.State = codes "state"
question_name (asked.Reach pid) = codes "reach"
question_name (asked.Explain errors allowed) = codes "explain"
question_name (asked.Needs granted) = codes "needs"
question_name (asked.Audit path) = codes "audit"
question_name (asked.Reasons path) = codes "audit"
question_name asked.Listing = codes "ls"
question_name (asked.File path) = codes "cat"
question_name (asked.Turns slice steps) = codes "turns"
question_name (asked.Explore kind states) = codes "explore"
question_name (asked.Access kind files states) = codes "access"
question_name (asked.Exposure kind files states) = codes "exposure"
question_name (asked.Policy kind granted states) = codes "policy"
question_name (asked.Graph tree states) = codes "graph"

module _ (rows : List Row) (file : InputFile) (schedule : ScheduleInput) (steps : Option ℕ) where
  -- a question about a run, with the word after its schedule; and one about a tree, with the words after its input
  abbrev pub IsAskedOfRun : Type 0
  IsAskedOfRun = IsRunIn rows (codes "PATH") false file schedule None × IsNumberIn (first_of (codes "steps") rows) steps

  abbrev pub IsAskedOfSearch : SearchKind → ℕ → Type 0
  IsAskedOfSearch kind states =
      IsTreeIn rows file [] schedule steps × (states_in (first_of (codes "states") rows) ≡ Some states) × (kind_in rows ≡ kind)

  -- the arguments of a question, its input and its schedule were entered
  abbrev pub IsQuestionIn : Question → Type 0
  IsQuestionIn asked.Trace = IsTracedIn rows file × IsTracedBy (first_of (codes "by") rows) schedule × IsNumberIn (first_of (codes "steps") rows) steps
  IsQuestionIn asked.State = IsAskedOfRun
  IsQuestionIn (asked.Reach pid) =
      (word : Option Text) × IsReachIn rows file schedule word × IsNumberIn word pid × IsNumberIn (first_of (codes "steps") rows) steps
  IsQuestionIn (asked.Explain errors allowed) = IsAskedOfRun × (errors_entered rows ≡ errors) × (is_set rows (codes "allowed") ≡ allowed)
  IsQuestionIn (asked.Needs granted) = IsAskedOfRun × (is_set rows (codes "granted") ≡ granted)
  IsQuestionIn (asked.Audit path) =
      IsRunIn rows (codes "PATH") true file schedule (option_map (λ p. p.now) path) × IsNumberIn (first_of (codes "steps") rows) steps × (is_set rows (codes "reasons") ≡ false)
  IsQuestionIn (asked.Reasons path) =
      IsRunIn rows (codes "PATH") true file schedule (option_map (λ p. p.now) path) × IsNumberIn (first_of (codes "steps") rows) steps × (is_set rows (codes "reasons") ≡ true)
  IsQuestionIn asked.Listing = IsTreeIn rows file [] schedule steps
  IsQuestionIn (asked.File path) = IsTreeIn rows file (path.now ∷ []) schedule steps
  IsQuestionIn (asked.Turns slice limit) =
      IsTreeIn rows file [] schedule steps × (count_or_default 1 (first_of (codes "slice") rows) ≡ Some slice) × (count_or_default 1000 (first_of (codes "steps") rows) ≡ Some limit)
  IsQuestionIn (asked.Explore kind states) = IsAskedOfSearch kind states
  IsQuestionIn (asked.Access kind files states) = IsAskedOfSearch kind states × (paths_in files ≡ files_entered rows)
  IsQuestionIn (asked.Exposure kind files states) = IsAskedOfSearch kind states × (paths_in files ≡ files_entered rows)
  IsQuestionIn (asked.Policy kind granted states) = IsAskedOfSearch kind states × (is_set rows (codes "granted") ≡ granted)
  IsQuestionIn (asked.Graph tree states) =
      IsTreeIn rows file [] schedule steps × (states_in (first_of (codes "states") rows) ≡ Some states) × (is_set rows (codes "tree") ≡ tree)

-- two inputs that are compared: two words, or a bundle and a word; only one of them is the standard input
abbrev pub IsComparedIn : List Row → InputFile → InputFile → Type 0
IsComparedIn rows (input.Any first) (input.Any second) =
    (first_of (codes "bundle") rows ≡ None) × (first_of (codes "FILE") rows ≡ Some first.now) × (first_of (codes "OTHER") rows ≡ Some second.now)
    × (bytes_eq first.now (codes "-") && bytes_eq second.now (codes "-") ≡ false)
IsComparedIn rows (input.Bundle first) (input.Bundle second) =
    (first_of (codes "bundle") rows ≡ Some first.now) × (first_of (codes "FILE") rows ≡ Some second.now) × (first_of (codes "OTHER") rows ≡ None)
    × (bytes_eq first.now (codes "-") && bytes_eq second.now (codes "-") ≡ false)
IsComparedIn rows first second = ⊥

abbrev pub IsExportedIn : List Row → InputFile → Type 0
IsExportedIn rows (input.Any name) = first_of (codes "FILE") rows ≡ Some name.now
IsExportedIn rows file = ⊥

-- the text of an argument is this number
abbrev pub IsSizeIn : List Row → Text → ℕ → Type 0
IsSizeIn rows argument size = IsNumberIn (first_of argument rows) (Some size)

-- the arguments of a command were entered under this name
abbrev pub IsEnteredUnder : Text → List Row → Command → Type 0
IsEnteredUnder name rows (Ask asking) = (name ≡ question_name asking.question) × IsQuestionIn rows asking.input asking.schedule asking.steps asking.question
IsEnteredUnder name rows (Compare first second pairs) =
    (name ≡ codes "compare") × IsComparedIn rows first second × (states_in (first_of (codes "states") rows) ≡ Some pairs)
IsEnteredUnder name rows (WriteSource source kind) =
    (name ≡ codes "source") × (first_of (codes "FILE") rows ≡ Some source.now) × ((if is_set rows (codes "lines") then ProgramLines else Translation) ≡ kind)
IsEnteredUnder name rows (MakeImage manifest image) =
    (name ≡ codes "mkimg") × (first_of (codes "MANIFEST") rows ≡ Some manifest.now) × (first_of (codes "IMAGE") rows ≡ Some image.now)
IsEnteredUnder name rows (RunImage image schedule out) =
    (name ≡ codes "run") × (first_of (codes "IMAGE") rows ≡ Some image.now) × (first_of (codes "SCHEDULE") rows ≡ Some schedule.now) × (first_of (codes "OUT") rows ≡ Some out.now)
IsEnteredUnder name rows (MigrateImage image out blocks inodes) =
    (name ≡ codes "migrate") × (first_of (codes "IMAGE") rows ≡ Some image.now) × (first_of (codes "OUT") rows ≡ Some out.now)
    × IsSizeIn rows (codes "BLOCKS") blocks × IsSizeIn rows (codes "INODES") inodes
IsEnteredUnder name rows (ImportDirectory import) =
    (name ≡ codes "import") × (first_of (codes "DIR") rows ≡ Some import.directory.now) × (first_of (codes "IMAGE") rows ≡ Some import.image.now)
    × (version_in (first_of (codes "image-version") rows) ≡ Some import.version) × (is_set rows (codes "skip") ≡ import.skips)
    × (option_map (λ text. text.now) import.source ≡ first_of (codes "with") rows)
IsEnteredUnder name rows (ExportImage file directory) = (name ≡ codes "export") × IsExportedIn rows file × (first_of (codes "DIR") rows ≡ Some directory.now)

-- the matches of a subcommand are those of this command and its arguments
abbrev pub IsCommandIn : Option (Text × List Row) → Command → Type 0
IsCommandIn None command = ⊥
IsCommandIn (Some p) command = IsEnteredUnder p.0 p.1 command

-- the paths of the files of a command
abbrev pub files_of_question : Question → List Text
files_of_question (asked.Access kind files states) = paths_in files
files_of_question (asked.Exposure kind files states) = paths_in files
files_of_question question = []

abbrev pub command_files : Command → List Text
command_files (Ask asking) = files_of_question asking.question
command_files command = []

-- the files of a command; without files it has no path
abbrev pub AreGivenPaths : Command → Option Files → Type 0
AreGivenPaths command None = command_files command ≡ []
AreGivenPaths command (Some files) = command_files command ≡ paths_in files

-- there is a path, and it is not plain
abbrev pub is_faulty : Option (Bor (List ℕ)) → Bool
is_faulty None = false
is_faulty (Some path) = not (is_plain_path path.now)

-- all paths are plain, or this one is not
abbrev pub AreFaultyPaths : List Text → Option Text → Type 0
AreFaultyPaths paths None = list_all is_plain_path paths ≡ true
AreFaultyPaths paths (Some path) = IsTrue (list_any (bytes_eq path) paths) × (is_plain_path path ≡ false)

-- the same for the files of a command
abbrev pub AreFaultyFiles : Command → Option Text → Type 0
AreFaultyFiles command path = AreFaultyPaths (command_files command) path

-- the turns of a command, in place of a schedule
abbrev pub turns_in : ScheduleInput → Option Text
turns_in (AsTurns turns) = Some turns.now
turns_in schedule = None

abbrev pub turns_of : Command → Option Text
turns_of (Ask asking) = turns_in asking.schedule
turns_of command = None

-- without words, the command is to run the bundle on the standard input
abbrev pub IsTraceOfInput : Question → InputFile → ScheduleInput → Option ℕ → Type 0
IsTraceOfInput asked.Trace (input.Bundle file) Own None = file.now ≡ codes "-"
IsTraceOfInput question file schedule steps = ⊥

abbrev pub IsWithoutWords : Command → Type 0
IsWithoutWords (Ask asking) = IsTraceOfInput asking.question asking.input asking.schedule asking.steps
IsWithoutWords command = ⊥

-- the turns of a command are valid, or they are invalid
abbrev pub AreInvalidTurns : Command → Option Text → Type 0
AreInvalidTurns command None = IfSome (turns_of command) (λ turns. are_turns turns ≡ true)
AreInvalidTurns command (Some turns) = (turns_of command ≡ Some turns) × (are_turns turns ≡ false)

-- a refusal of the turns of a command, or of its files
abbrev pub RefusesTurnsOf : Command → LineFault → Type 0
RefusesTurnsOf command line.Memory = ⊤
RefusesTurnsOf command line.Number = ⊥
RefusesTurnsOf command (line.Parser error) =
    (kind_of error ≡ ValueValidation)
    × (IsSomeAnd (turns_of command) (λ turns. are_turns turns ≡ false) ⊎ (list_all is_plain_path (command_files command) ≡ false))

-- the matches are of this command, its turns are turns, and its files have plain paths
abbrev pub IsValidIn : Option (Text × List Row) → Command → Type 0
IsValidIn entered command =
    IsCommandIn entered command × IfSome (turns_of command) (λ turns. are_turns turns ≡ true)
    × (list_all is_plain_path (command_files command) ≡ true)

-- the words, whose first is the name of the program, ask for this command
abbrev pub IsAsked : List Text → Command → Type 0
IsAsked [] command = IsWithoutWords command
IsAsked (program ∷ []) command = IsWithoutWords command
IsAsked (program ∷ word ∷ words) command = IsValidIn (subcommand_of pvsim_app (program ∷ word ∷ words)) command

-- errors are explained: by default, which the flags of the words change
abbrev pub is_verbose_line : List Text → Bool
is_verbose_line [] = true
is_verbose_line (program ∷ []) = true
is_verbose_line (program ∷ word ∷ words) =
    is_verbose_in (matches_of pvsim_app (program ∷ word ∷ words)) (subcommand_of pvsim_app (program ∷ word ∷ words))

-- ---- refusals

-- out of memory in the parser is reported as `Memory`
abbrev pub of_kind : ErrorKind → Error → LineFault
of_kind OutOfMemory error = line.Memory
of_kind kind error = line.Parser error

abbrev pub of_parser : Error → LineFault
of_parser error = of_kind (kind_of error) error

-- a word is a number, as an argument of a command wants it
abbrev pub is_number_for : (command argument word : Text) → Bool
is_number_for command argument word =
    if bytes_eq argument (codes "states") then is_some (states_in (Some word))
    else (if bytes_eq argument (codes "image-version") then is_some (version_in (Some word))
    else (if bytes_eq argument (codes "slice") || (bytes_eq argument (codes "steps") && bytes_eq command (codes "turns")) then is_some (count_or_default 1 (Some word))
    else is_some (size_in word)))

-- the numeric arguments, beside the process of `reach`
abbrev pub IsNumeric : Text → Type 0
IsNumeric argument = (argument ≡ codes "steps") ⊎ ((argument ≡ codes "slice") ⊎ ((argument ≡ codes "states") ⊎ ((argument ≡ codes "BLOCKS") ⊎ ((argument ≡ codes "INODES") ⊎ (argument ≡ codes "image-version")))))

-- an argument of the command is not a number, or the process of `reach`
abbrev pub LacksArgument : Text → List Row → Type 0
LacksArgument name rows = (argument word : Text) × IsNumeric argument × (first_of argument rows ≡ Some word) × (is_number_for name argument word ≡ false)

abbrev pub LacksProcess : Text → List Row → Type 0
LacksProcess name rows =
    (name ≡ codes "reach") × (file : InputFile) × (schedule : ScheduleInput) × (word : Text) × IsReachIn rows file schedule (Some word) × (size_in word ≡ None)

-- a numeric argument is not a number
abbrev pub LacksNumber : Option (Text × List Row) → Type 0
LacksNumber None = ⊥
LacksNumber (Some p) = LacksArgument p.0 p.1 ⊎ LacksProcess p.0 p.1

-- the name of another search
abbrev pub IsSearchName : Text → Type 0
IsSearchName name = (name ≡ codes "explore") ⊎ ((name ≡ codes "policy") ⊎ (name ≡ codes "graph"))

-- the name of a search that may be about given files
abbrev pub IsAboutFiles : Text → Type 0
IsAboutFiles name = (name ≡ codes "access") ⊎ (name ≡ codes "exposure")

-- such a search was entered with more files than a question has
abbrev pub HasManyNamed : Text → List Row → Type 0
HasManyNamed name rows = IsAboutFiles name × (file : InputFile) × IsGivenIn rows (codes "PATH") file [] × (8 < length (files_entered rows))

abbrev pub HasManyFiles : Option (Text × List Row) → Type 0
HasManyFiles None = ⊥
HasManyFiles (Some p) = HasManyNamed p.0 p.1

-- why the matches of a command have no command: one of its words is missing or there are too many, an argument is not a
-- number, or there are too many files
abbrev pub LacksNamed : Text → List Row → NoCommand → Type 0
LacksNamed name rows lacks.Words = Never (IsEnteredUnder name rows)
LacksNamed name rows lacks.Number = LacksArgument name rows ⊎ LacksProcess name rows
LacksNamed name rows lacks.ManyFiles = HasManyNamed name rows

-- the command in the matches of a command with this name, or the reason why no command is found
abbrev pub FindsNamed : Text → List Row → Result Command NoCommand → Type 0
FindsNamed name rows (Ok command) = IsEnteredUnder name rows command
FindsNamed name rows (Err lack) = LacksNamed name rows lack

-- why matches have no command
abbrev pub LacksCommand : Option (Text × List Row) → NoCommand → Type 0
LacksCommand entered lacks.Words = Never (IsCommandIn entered)
LacksCommand entered lacks.Number = LacksNumber entered
LacksCommand entered lacks.ManyFiles = HasManyFiles entered

-- the parser rejects the words, with a kind of error that they have: for help and the version this is the request; or it
-- finds no fault in the words, and they have no command
abbrev pub IsRejected : List Text → Error → Type 0
IsRejected words error = (takes pvsim_app words ≡ false) × IsAmong (kind_of error) (fault_of pvsim_app words)

abbrev pub IsIncomplete : List Text → Error → Type 0
IsIncomplete words error =
    (fault_of pvsim_app words ≡ []) × (kind_of error ≡ MissingRequiredArgument) × Never (IsCommandIn (subcommand_of pvsim_app words))

pub record IsCommandLineError (words : List Text) (error : Error) : Type 0 where
  pub kind : kind_of error ≢ OutOfMemory
  pub why : IsRejected words error ⊎ IsIncomplete words error

-- the words ask for a command with invalid turns
pub record RefusesTurns (words : List Text) (error : Error) : Type 0 where
  pub kind : kind_of error ≡ ValueValidation
  pub command : Command
  pub is_command : IsCommandIn (subcommand_of pvsim_app words) command
  pub turns : Text
  pub has_turns : turns_of command ≡ Some turns
  pub are_none : are_turns turns ≡ false

-- the words ask for a command about a file whose path is not plain
pub record RefusesFiles (words : List Text) (error : Error) : Type 0 where
  pub kind : kind_of error ≡ ValueValidation
  pub command : Command
  pub is_command : IsCommandIn (subcommand_of pvsim_app words) command
  pub are_none : list_all is_plain_path (command_files command) ≡ false

-- the words ask for a search with more files than a question has
pub record RefusesMany (words : List Text) (error : Error) : Type 0 where
  pub kind : kind_of error ≡ ValueValidation
  pub are_many : HasManyFiles (subcommand_of pvsim_app words)

-- a refusal of the words after the name of the program
abbrev pub RefusesWords : List Text → LineFault → Type 0
RefusesWords words (line.Parser error) =
    IsCommandLineError words error ⊎ (RefusesTurns words error ⊎ (RefusesFiles words error ⊎ RefusesMany words error))
RefusesWords words line.Number = LacksNumber (subcommand_of pvsim_app words)
RefusesWords words line.Memory = ⊤

-- a refusal of a command line; without further words it can only be out of memory
abbrev pub RefusesLine : List Text → LineFault → Type 0
RefusesLine words line.Memory = ⊤
RefusesLine words fault = (1 < length words) × RefusesWords words fault
