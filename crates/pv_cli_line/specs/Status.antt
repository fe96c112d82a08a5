-- The exit status: 0 for success, 1 for invalid input, 2 for the command line, 3 for out of memory, 4 for a failed read
-- or write, 5 for a search that left a state out, 6 for a difference.
use Rattle.std.specs.Prelude.{ℕ}
use Rattle.clap.specs.Words.{kind_of}
use Rattle.clap.specs.declared.error.kind.ErrorKind.{ErrorKind}
use Rattle.clap.specs.declared.error.kind.ErrorKind.TheVariants.{DisplayHelp, DisplayVersion}
use Rattle.pv_cli_commands.specs.OfQuestions.Failures.{failure_status as command_status}
use Rattle.pv_cli_line.specs.declared.command.LineFault.{LineFault}
use Rattle.pv_cli_line.specs.declared.command.LineFault.TheVariants as line
use Rattle.pv_cli_line.specs.declared.fault.Fault.{Fault}
use Rattle.pv_cli_line.specs.declared.fault.Fault.TheVariants.{Command, Line, Words}

-- help and the version were requested; any other result of the parser is an error in the words
abbrev pub kind_status : ErrorKind → ℕ
kind_status DisplayHelp = 0
kind_status DisplayVersion = 0
kind_status kind = 2

abbrev pub line_status : LineFault → ℕ
line_status (line.Parser error) = kind_status (kind_of error)
line_status line.Number = 2
line_status line.Memory = 3

abbrev pub exit_status_of : Fault → ℕ
exit_status_of (Command fault) = command_status fault
exit_status_of (Line fault) = line_status fault
exit_status_of Words = 2
