-- The words of a command, as the code finds them.
use Rattle.std.specs.Prelude.{◌≡◌, ℕ, List, [], ◌∷◌, Option, None, Some, Result, Ok, Err}
use Rattle.clap.specs.Words.{Text}
use Rattle.pv_cli_commands.specs.declared.command.Command.{Command}
use Rattle.pv_cli_commands.specs.declared.command.Command.TheVariants.{Ask}
use Rattle.pv_cli_commands.specs.declared.command.InputFile.{InputFile}
use Rattle.pv_cli_commands.specs.declared.command.ScheduleInput.TheVariants.{Own}
use Rattle.pv_cli_commands.specs.OfQuestions.declared.question.Question.{Question}
use Rattle.pv_cli_line.specs.declared.matches.NoCommand.{NoCommand}
use Rattle.pv_cli_line.specs.declared.matches.NoCommand.TheVariants.{Number}
use Rattle.pv_cli_line.specs.declared.matches.Run.{Run}
use Rattle.pv_cli_line.specs.declared.matches.Words.{Words}
use Rattle.pv_cli_line.specs.declared.matches.Words.TheVariants.{Zero, One, Two, Three}
use Rattle.pv_cli_line.specs.Line.{IsNumberIn}

-- a number, if there is one
abbrev pub number_or_lack : Option ℕ → Result ℕ NoCommand
number_or_lack None = Err Number
number_or_lack (Some n) = Ok n

-- the words beside the options of a command, as texts
abbrev pub words_of : Words → List Text
words_of Zero = []
words_of (One first) = first.now ∷ []
words_of (Two first second) = first.now ∷ second.now ∷ []
words_of (Three first second third) = first.now ∷ second.now ∷ third.now ∷ []

-- the command of a question about a run
abbrev pub IsAsking : Question → Run → Option Text → Command → Type 0
IsAsking question run steps (Ask asking) =
    (asking.question ≡ question) × (asking.input ≡ run.input) × (asking.schedule ≡ run.schedule) × IsNumberIn steps asking.steps
IsAsking question run steps command = ⊥

-- the command of a question about a tree
abbrev pub asking_of_tree : Question → InputFile → Command
asking_of_tree question file = Ask (record { question = question; input = file; schedule = Own; steps = None })
