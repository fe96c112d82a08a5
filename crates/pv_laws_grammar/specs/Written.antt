-- The canonical text of a program: the text written for its instructions.
use Rattle.std.specs.Prelude.{ℕ, ◌<◌, ◌≤◌, ◌∷◌, ◌++◌, length, flat_map, codes, Option, None, Some}
use Rattle.std.specs.Fmt.{decimal, signed_decimal}
use Rattle.std.specs.List.{AllByRecursion}
use Rattle.pv_model.specs.declared.instruction.Instruction.{Instruction}
use Rattle.pv_model.specs.declared.instruction.Operand.{Operand}
use Rattle.pv_model.specs.declared.instruction.Operand.TheVariants.{Number, Register}
use Rattle.pv_model.specs.declared.instruction.Origin.{Origin}
use Rattle.pv_model.specs.declared.instruction.Origin.TheVariants.{WorkingDirectory, Descriptor}
use Rattle.pv_model.specs.declared.limits.TheConstants.{BUFFER, REGISTERS, TEXT}
use Rattle.pv_model.specs.Machine.{Bytes, with_line_end, Program, quote}
use Rattle.pv_model.specs.Grammar.Forms.{Argument, operand, register, number, line, place, text, text_or_null, flags, whence, origin, form_of}
use Rattle.pv_model.specs.Grammar.Encoding.{IsNumber}
use Rattle.pv_model.specs.Trace.{quote_or_null, flags_text, whence_text}

abbrev pub written_register : ℕ → Bytes
written_register r = codes "r" ++ decimal r

abbrev pub written_operand : Operand → Bytes
written_operand (Number n) = signed_decimal n
written_operand (Register r) = written_register r

abbrev pub written_origin : Origin → Bytes
written_origin WorkingDirectory = codes "cwd"
written_origin (Descriptor d) = written_operand d

abbrev pub written_argument : Argument → Bytes
written_argument (operand value) = written_operand value
written_argument (register value) = written_register value
written_argument (number value) = signed_decimal value
written_argument (line value) = decimal value
written_argument (place value) = decimal value
written_argument (text value) = quote value
written_argument (text_or_null value) = quote_or_null value
written_argument (flags value) = flags_text value
written_argument (whence value) = whence_text value
written_argument (origin value) = written_origin value

abbrev pub written_line : Instruction → Bytes
written_line i = (form_of i).0 ++ flat_map (λ a. 32 ∷ written_argument a) (form_of i).1

abbrev pub written_program : Program → Bytes
written_program program = flat_map (λ i. with_line_end (written_line i)) program

abbrev pub IsOperand : Operand → Type 0
IsOperand (Number n) = IsNumber n
IsOperand (Register r) = r < 8

abbrev pub IsOrigin : Origin → Type 0
IsOrigin WorkingDirectory = Unit {0}
IsOrigin (Descriptor d) = IsOperand d

-- a text has at most 1,100 bytes, none of which is 0
abbrev pub IsText : Bytes → Type 0
IsText value = AllByRecursion (λ b. (0 < b) × (b < 256)) value × (length value ≤ TEXT)

abbrev pub IsTextOrNull : Option Bytes → Type 0
IsTextOrNull None = Unit {0}
IsTextOrNull (Some value) = IsText value

-- an argument is in its range, in a program with a number of lines
abbrev pub IsArgument : ℕ → Argument → Type 0
IsArgument lines (operand value) = IsOperand value
IsArgument lines (register value) = value < REGISTERS
IsArgument lines (number value) = IsNumber value
IsArgument lines (line value) = (1 ≤ value) × (value ≤ lines)
IsArgument lines (place value) = value < BUFFER
IsArgument lines (text value) = IsText value
IsArgument lines (text_or_null value) = IsTextOrNull value
IsArgument lines (flags value) = Unit {0}
IsArgument lines (whence value) = Unit {0}
IsArgument lines (origin value) = IsOrigin value

-- a program has at most 256 lines, and its arguments are in their ranges
abbrev pub IsProgram : Program → Type 0
IsProgram program = (length program ≤ 256) × AllByRecursion (λ i. AllByRecursion (IsArgument (length program)) (form_of i).1) program
