-- The program that bytes parse as, line by line.
use Rattle.std.specs.Prelude.{ℕ, suc, min, if◌then◌else◌, ◌==◌, List, [], ◌∷◌, length, Option, Result, Ok, Err}
use Rattle.std.specs.Result.{result_ok}
use Rattle.pv_model.specs.declared.fault.ParseFault.{ParseFault}
use Rattle.pv_model.specs.declared.fault.ParseFault.TheVariants.{Line}
use Rattle.pv_model.specs.declared.fault.What.{What}
use Rattle.pv_model.specs.declared.fault.What.TheVariants.{TooMany}
use Rattle.pv_model.specs.declared.instruction.Instruction.{Instruction}
use Rattle.pv_model.specs.declared.limits.TheConstants.{LINES}
use Rattle.pv_model.specs.Bytes.{Bytes}
use Rattle.pv_model.specs.Grammar.Instructions.{instruction_of}
use Rattle.pv_model.specs.Grammar.Lines.{lines_of}
use Rattle.pv_model.specs.State.{Program}

abbrev pub onto_program : Instruction → Result Program ParseFault → Result Program ParseFault
onto_program i (Ok program) = Ok (i ∷ program)
onto_program i (Err fault) = Err fault

abbrev pub or_line : ℕ → Result Instruction What → Result Program ParseFault → Result Program ParseFault
or_line n (Ok i) rest = onto_program i rest
or_line n (Err what) rest = Err (Line n what)

-- the program of the lines from line n on, given a parser of lines; an error names the first invalid line
abbrev pub program_from : (Bytes → Result Instruction What) → List Bytes → ℕ → Result Program ParseFault
program_from read [] n = Ok []
program_from read (line ∷ lines) n = if n == suc LINES then Err (Line (suc LINES) TooMany) else or_line n (read line) (program_from read lines (suc n))

-- the program that lines parse as
abbrev pub program_of_lines : List Bytes → Result Program ParseFault
program_of_lines lines = program_from (instruction_of (min (length lines) LINES)) lines 1

-- the program that bytes parse as, or the first error
unfoldable pub read_program : Bytes → Result Program ParseFault
read_program bytes = program_of_lines (lines_of bytes)

-- the program that bytes parse as, or None
abbrev pub program_of : Bytes → Option Program
program_of bytes = result_ok (read_program bytes)
