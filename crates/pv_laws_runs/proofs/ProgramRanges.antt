-- A parsed program is in range.
use Rattle.std.proofs.Common.{◌≡◌, ℕ, suc, ℤ, pos, negsuc, ◌≤◌, ◌<◌, Bool, true, false, not, ◌&&◌, ◌==◌, nat_le, nat_lt, List, [], ◌∷◌, length, Option, None, Some, refl, ap, arith}
use Rattle.std.specs.List.{list_all}
use Rattle.std.proofs.lemmas.Bool.{and_parts, and_from, le-leb, lt-ltb, leb-true, ne_eqb}
use Rattle.pv_model.specs.declared.instruction.Instruction.{Instruction}
use Rattle.pv_model.specs.declared.instruction.Instruction.TheVariants as Line
use Rattle.pv_model.specs.declared.instruction.Operand.{Operand}
use Rattle.pv_model.specs.declared.instruction.Operand.TheVariants.{Number, Register}
use Rattle.pv_model.specs.declared.instruction.Origin.{Origin}
use Rattle.pv_model.specs.declared.instruction.Origin.TheVariants.{WorkingDirectory, Descriptor}
use Rattle.pv_model.specs.Machine.{Bytes, program_of, EncodesText, Program, is_plain}
use Rattle.pv_model.specs.Grammar.Forms.{Argument, operand, register, number, line, place, text, text_or_null, flags, whence, origin, form_of, Encodes, EncodesArguments}
use Rattle.pv_model.specs.Grammar.Encoding.{IsNumber, EncodesOperand, EncodesOrigin, EncodesTextOrNull, EncodesBytes, nothing, plain, escaped}
use Rattle.pv_model.specs.Grammar.Texts.{EncodeLines, EncodesProgram}
use Rattle.pv_laws_grammar.proofs.ProgramParsing.{EncodesProgram-program_of}
use Rattle.pv_laws_answers.specs.OfLawsStates.States.{is_word, is_byte, is_text_byte, is_text, is_text_or_none, is_operand, is_origin, is_target_line, is_instruction, is_program_in_bounds, EncodesPrograms}

-- ---- arguments

-- an argument is in its range, in a program with a number of lines
abbrev is_argument : ℕ → Argument → Bool
is_argument lines (operand value) = is_operand value
is_argument lines (register value) = nat_lt value 8
is_argument lines (number value) = is_word value
is_argument lines (line value) = is_target_line lines value
is_argument lines (place value) = nat_lt value 4096
is_argument lines (text value) = is_text value
is_argument lines (text_or_null value) = is_text_or_none value
is_argument lines (flags value) = true
is_argument lines (whence value) = true
is_argument lines (origin value) = is_origin value

word-number : (n : ℤ) → IsNumber n → is_word n ≡ true
word-number (pos n) small = le-leb n 2147483647 small
word-number (negsuc n) small = le-leb n 2147483647 small

operand-encoded : (value : Operand) (word : Bytes) → EncodesOperand value word → is_operand value ≡ true
operand-encoded (Number n) word is = word-number n is.0
operand-encoded (Register r) word is = lt-ltb r 8 is.0

origin-encoded : (value : Origin) (word : Bytes) → EncodesOrigin value word → is_origin value ≡ true
origin-encoded WorkingDirectory word is = refl
origin-encoded (Descriptor d) word is = operand-encoded d word is

text_byte-from : (b : ℕ) → 0 < b → b < 256 → is_text_byte b ≡ true
text_byte-from b above below =
    and_from (not (b == 0)) (is_byte b) (ap not (ne_eqb b 0 (λ zero. absurd (omega arith)))) (lt-ltb b 256 below)

plain-text_byte : (b : ℕ) → is_plain b ≡ true → is_text_byte b ≡ true
plain-text_byte b is =
    let range = and_parts (nat_le 32 b) (nat_le b 126) (and_parts (nat_le 32 b && nat_le b 126) (not (b == 34)) (and_parts (nat_le 32 b && nat_le b 126 && not (b == 34)) (not (b == 92)) is).0).0 in
    let low = leb-true 32 b range.0 in
    let high = leb-true b 126 range.1 in
    text_byte-from b (omega arith) (omega arith)

bytes-encoded : (value encoded : Bytes) → EncodesBytes value encoded → list_all is_text_byte value ≡ true
bytes-encoded _ _ nothing = refl
bytes-encoded _ _ (plain b value encoded is rest) = and_from (is_text_byte b) (list_all is_text_byte value) (plain-text_byte b is) (bytes-encoded value encoded rest)
bytes-encoded _ _ (escaped b value encoded above below rest) =
    and_from (is_text_byte b) (list_all is_text_byte value) (text_byte-from b above below) (bytes-encoded value encoded rest)

pub text-encoded : (value word : Bytes) → EncodesText value word → is_text value ≡ true
text-encoded value word is = and_from (nat_le (length value) 1100) (list_all is_text_byte value) (le-leb (length value) 1100 is.2) (bytes-encoded value is.0 is.1)

text_or_null-encoded : (value : Option Bytes) (word : Bytes) → EncodesTextOrNull value word → is_text_or_none value ≡ true
text_or_null-encoded None word is = refl
text_or_null-encoded (Some value) word is = text-encoded value word is

argument-encoded : (lines : ℕ) (a : Argument) (word : Bytes) → Encodes lines a word → is_argument lines a ≡ true
argument-encoded lines (operand value) word is = operand-encoded value word is
argument-encoded lines (register value) word is = lt-ltb value 8 is.0
argument-encoded lines (number value) word is = word-number value is.0
argument-encoded lines (line value) word is = and_from (nat_le 1 value) (nat_le value lines) (le-leb 1 value is.0) (le-leb value lines is.1)
argument-encoded lines (place value) word is = lt-ltb value 4096 is.0
argument-encoded lines (text value) word is = text-encoded value word is
argument-encoded lines (text_or_null value) word is = text_or_null-encoded value word is
argument-encoded lines (flags value) word is = refl
argument-encoded lines (whence value) word is = refl
argument-encoded lines (origin value) word is = origin-encoded value word is

arguments-encoded : (lines : ℕ) (arguments : List Argument) (bytes : Bytes) → EncodesArguments lines arguments bytes → list_all (is_argument lines) arguments ≡ true
arguments-encoded lines [] bytes is = refl
arguments-encoded lines (a ∷ others) bytes is =
    and_from (is_argument lines a) (list_all (is_argument lines) others) (argument-encoded lines a is.0 is.2) (arguments-encoded lines others is.1 is.3)

-- ---- lines

one : (a : Bool) → (a && true) ≡ true → a ≡ true
one a is = (and_parts a true is).0

two : (a b : Bool) → (a && (b && true)) ≡ true → (a && b) ≡ true
two true b is = one b is
two false b is = is

instruction-ranges : (lines : ℕ) (i : Instruction) → list_all (is_argument lines) (form_of i).1 ≡ true → is_instruction lines i ≡ true
instruction-ranges lines (Line.Set r n) is = two (nat_lt r 8) (is_word n) is
instruction-ranges lines (Line.Add r n) is = two (nat_lt r 8) (is_word n) is
instruction-ranges lines (Line.Put bytes) is = one (is_text bytes) is
instruction-ranges lines (Line.Peek r k) is = two (nat_lt r 8) (nat_lt k 4096) is
instruction-ranges lines (Line.Jump n) is = one (is_target_line lines n) is
instruction-ranges lines (Line.JumpIfZero r n) is = two (nat_lt r 8) (is_target_line lines n) is
instruction-ranges lines (Line.JumpIfNotZero r n) is = two (nat_lt r 8) (is_target_line lines n) is
instruction-ranges lines (Line.JumpIfNegative r n) is = two (nat_lt r 8) (is_target_line lines n) is
instruction-ranges lines Line.Fork is = refl
instruction-ranges lines Line.Wait is = refl
instruction-ranges lines Line.GetPid is = refl
instruction-ranges lines Line.GetPpid is = refl
instruction-ranges lines (Line.Exit code) is = one (is_operand code) is
instruction-ranges lines (Line.Close d) is = one (is_operand d) is
instruction-ranges lines (Line.Dup d) is = one (is_operand d) is
instruction-ranges lines (Line.Fstat d) is = one (is_operand d) is
instruction-ranges lines (Line.Getdents d) is = one (is_operand d) is
instruction-ranges lines (Line.Fchdir d) is = one (is_operand d) is
instruction-ranges lines (Line.Dup2 d e) is = two (is_operand d) (is_operand e) is
instruction-ranges lines (Line.Read d n) is = two (is_operand d) (is_operand n) is
instruction-ranges lines (Line.Write d n) is = two (is_operand d) (is_operand n) is
instruction-ranges lines (Line.Ftruncate d n) is = two (is_operand d) (is_operand n) is
instruction-ranges lines (Line.Lseek d by from) is = two (is_operand d) (is_operand by) is
instruction-ranges lines (Line.Pledge promises execpromises) is = two (is_text_or_none promises) (is_text_or_none execpromises) is
instruction-ranges lines (Line.Unveil path permissions) is = two (is_text_or_none path) (is_text_or_none permissions) is
instruction-ranges lines (Line.Execve path) is = one (is_text path) is
instruction-ranges lines (Line.Chdir path) is = one (is_text path) is
instruction-ranges lines (Line.Stat path) is = one (is_text path) is
instruction-ranges lines (Line.Lstat path) is = one (is_text path) is
instruction-ranges lines (Line.Readlink path) is = one (is_text path) is
instruction-ranges lines (Line.Unlink path) is = one (is_text path) is
instruction-ranges lines (Line.Mkdir path) is = one (is_text path) is
instruction-ranges lines (Line.Rmdir path) is = one (is_text path) is
instruction-ranges lines (Line.Open path how) is = one (is_text path) is
instruction-ranges lines (Line.OpenAt start path how) is = two (is_origin start) (is_text path) is
instruction-ranges lines (Line.Rename path new) is = two (is_text path) (is_text new) is
instruction-ranges lines (Line.Link path new) is = two (is_text path) (is_text new) is
instruction-ranges lines (Line.Symlink value path) is = two (is_text value) (is_text path) is

lines-encoded : (count : ℕ) (lines : List Bytes) (program : Program) → EncodeLines count lines program → (length lines ≡ length program) × (list_all (is_instruction count) program ≡ true)
lines-encoded count [] [] is = (refl, refl)
lines-encoded count (l ∷ ls) (i ∷ program) is =
    let rest = lines-encoded count ls program is.1 in
    (ap suc rest.0, and_from (is_instruction count i) (list_all (is_instruction count) program) (instruction-ranges count i (arguments-encoded count (form_of i).1 is.0.0 is.0.1)) rest.1)
lines-encoded count [] (i ∷ program) is = absurd is
lines-encoded count (l ∷ ls) [] is = absurd is

-- ---- programs

program-encoded : (bytes : Bytes) (program : Program) → EncodesProgram bytes program → is_program_in_bounds program ≡ true
program-encoded bytes program is =
    let parts = lines-encoded (length is.0) is.0 program is.3 in
    and_from (nat_le (length program) 256) (list_all (is_instruction (length program)) program)
    (le-leb (length program) 256 (Rattle.std.proofs.Common.subst (λ n. n ≤ 256) parts.0 is.2))
    (Rattle.std.proofs.Common.subst (λ n. list_all (is_instruction n) program ≡ true) parts.0 parts.1)

pub program_of-encodes : EncodesPrograms program_of
program_of-encodes = record { encodes = λ bytes program is. program-encoded bytes program (EncodesProgram-program_of bytes program is) }
