-- The text written for a program encodes it.
use Rattle.std.proofs.Common.{◌≡◌, inl, ℕ, ◌+◌, ◌/◌, ◌%◌, ◌^◌, ◌<◌, ◌≤◌, ℤ, pos, negsuc, Bool, true, false, not, ◌&&◌, ◌==◌, nat_le, nat_lt, List, [], ◌∷◌, ◌++◌, length, map, Option, None, Some, ap, sym, ◌∙◌, refl, subst, arith, leb-true}
use Rattle.std.specs.Prelude.{flat_map, codes}
use Rattle.std.specs.Fmt.{decimal, signed_decimal}
use Rattle.std.specs.List.{AllByRecursion, list_all}
use Rattle.std.proofs.lemmas.Bool.{cond_both, and_parts, and_from, ne_eqb, eqb-false, not-true, not_from_false}
use Rattle.std.proofs.lemmas.List.Folds.{list_all-append}
use Rattle.pv_model.specs.declared.call.Whence.{Whence}
use Rattle.pv_model.specs.declared.call.Whence.TheVariants.{Set as Start, Current, End}
use Rattle.pv_model.specs.declared.instruction.Instruction.{Instruction}
use Rattle.pv_model.specs.declared.instruction.Instruction.TheVariants.{Set}
use Rattle.pv_model.specs.declared.instruction.Operand.{Operand}
use Rattle.pv_model.specs.declared.instruction.Operand.TheVariants.{Number, Register}
use Rattle.pv_model.specs.declared.instruction.Origin.{Origin}
use Rattle.pv_model.specs.declared.instruction.Origin.TheVariants.{WorkingDirectory, Descriptor}
use Rattle.pv_model.specs.declared.open_flags.Mode.{Mode}
use Rattle.pv_model.specs.declared.open_flags.Mode.TheVariants.{Read, Write, ReadWrite}
use Rattle.pv_model.specs.declared.open_flags.OpenFlags.{OpenFlags}
use Rattle.pv_model.specs.Machine.{Bytes, ended, Program, is_plain, hex_byte, quote_byte, quote, mode_text}
use Rattle.pv_model.specs.Grammar.Forms.{Argument, operand, register, number, line, place, text, text_or_null, flags, whence, origin, form_of, Encodes, EncodesArguments, EncodesLine}
use Rattle.pv_model.specs.Grammar.Lines.{is_digit}
use Rattle.pv_model.specs.Grammar.Encoding.{IsNumber, EncodesOperand, EncodesOrigin, EncodesTextOrNull}
use Rattle.pv_model.specs.Grammar.Texts.{IsLine, EncodeLines, EncodesProgram}
use Rattle.pv_model.specs.Trace.{hex_digit, quote_or_null, flag_text, flags_text, whence_text}
use Rattle.pv_laws_grammar.specs.Written.{written_register, written_operand, written_origin, written_argument, written_line, written_program, IsOperand, IsOrigin, IsTextOrNull, IsArgument, IsProgram}
use Rattle.pv_laws_grammar.proofs.Decimals.{Decimal-decimal, digits_all, digit_bounds}
use Rattle.pv_laws_grammar.proofs.FlagWords.{after_mode, after_append, after_create, after_truncate, after_exclusive, after_no_follow, after_directory, flags_text-parts}
use Rattle.pv_laws_grammar.proofs.ShortestForm.{EncodesText-quote}

-- ---- arguments in range are encoded

encodes_operand : (o : Operand) → IsOperand o → EncodesOperand o (written_operand o)
encodes_operand (Number n) h = (h, refl)
encodes_operand (Register r) h = (h, refl)

encodes_origin : (o : Origin) → IsOrigin o → EncodesOrigin o (written_origin o)
encodes_origin WorkingDirectory h = refl
encodes_origin (Descriptor d) h = encodes_operand d h

encodes_text_or_null : (value : Option Bytes) → IsTextOrNull value → EncodesTextOrNull value (quote_or_null value)
encodes_text_or_null None h = refl
encodes_text_or_null (Some value) h = EncodesText-quote value h.0 h.1

encodes_written : (lines : ℕ) → lines ≤ 256 → (a : Argument) → IsArgument lines a → Encodes lines a (written_argument a)
encodes_written lines few (operand value) h = encodes_operand value h
encodes_written lines few (register value) h = (h, refl)
encodes_written lines few (number value) h = (h, refl)
encodes_written lines few (line value) h = let high = h.1 in (h.0, h.1, (omega arith, refl))
encodes_written lines few (place value) h = (h, (omega arith, refl))
encodes_written lines few (text value) h = EncodesText-quote value h.0 h.1
encodes_written lines few (text_or_null value) h = encodes_text_or_null value h
encodes_written lines few (flags value) h = refl
encodes_written lines few (whence value) h = refl
encodes_written lines few (origin value) h = encodes_origin value h

encodes_arguments : (lines : ℕ) → lines ≤ 256 → (arguments : List Argument) → AllByRecursion (IsArgument lines) arguments → EncodesArguments lines arguments (flat_map (λ a. 32 ∷ written_argument a) arguments)
encodes_arguments lines few [] h = refl
encodes_arguments lines few (a ∷ others) h = (written_argument a, flat_map (λ b. 32 ∷ written_argument b) others, encodes_written lines few a h.0, encodes_arguments lines few others h.1, refl)

encodes_line : (lines : ℕ) → lines ≤ 256 → (i : Instruction) → AllByRecursion (IsArgument lines) (form_of i).1 → EncodesLine lines (written_line i) i
encodes_line lines few i h = (flat_map (λ a. 32 ∷ written_argument a) (form_of i).1, encodes_arguments lines few (form_of i).1 h, refl)

encode_lines : (lines : ℕ) → lines ≤ 256 → (program : Program) → AllByRecursion (λ i. AllByRecursion (IsArgument lines) (form_of i).1) program → EncodeLines lines (map written_line program) program
encode_lines lines few [] h = tt
encode_lines lines few (i ∷ program) h = (encodes_line lines few i h.0, encode_lines lines few program h.1)

-- ---- the text written for an argument contains no LF

abbrev clear : Bytes → Bool
clear bs = list_all (λ b. not (b == 10)) bs

clear-append : (a b : Bytes) → clear a ≡ true → clear b ≡ true → clear (a ++ b) ≡ true
clear-append a b p q = list_all-append (λ c. not (c == 10)) a b ∙ and_from (clear a) (clear b) p q

clear_byte : (b : ℕ) (bs : Bytes) → 11 ≤ b → clear bs ≡ true → clear (b ∷ bs) ≡ true
clear_byte b bs h k = and_from (not (b == 10)) (clear bs) (not_from_false (b == 10) (ne_eqb b 10 (λ e. omega arith))) k

clear_digits : (bs : Bytes) → list_all is_digit bs ≡ true → clear bs ≡ true
clear_digits [] h = refl
clear_digits (b ∷ bs) h =
    let parts = and_parts (is_digit b) (list_all is_digit bs) h in
    let bounds = digit_bounds b parts.0 in
    let low = bounds.0 in
    clear_byte b bs (omega arith) (clear_digits bs parts.1)

clear_decimal : (n : ℕ) → n < 2 ^ 64 → clear (decimal n) ≡ true
clear_decimal n h = clear_digits (decimal n) (digits_all n (decimal n) (Decimal-decimal n h))

clear_number : (n : ℤ) → IsNumber n → clear (signed_decimal n) ≡ true
clear_number (pos n) h = clear_decimal n (omega arith)
clear_number (negsuc n) h = clear_byte 45 (decimal (ℕ.suc n)) (omega arith) (clear_decimal (ℕ.suc n) (omega arith))

clear_register : (r : ℕ) → r < 8 → clear (written_register r) ≡ true
clear_register r h = clear_byte 114 (decimal r) (omega arith) (clear_decimal r (omega arith))

clear_operand : (o : Operand) → IsOperand o → clear (written_operand o) ≡ true
clear_operand (Number n) h = clear_number n h
clear_operand (Register r) h = clear_register r h

clear_origin : (o : Origin) → IsOrigin o → clear (written_origin o) ≡ true
clear_origin WorkingDirectory h = refl
clear_origin (Descriptor d) h = clear_operand d h

hex_digit_high : (d : ℕ) → 11 ≤ hex_digit d
hex_digit_high d = cond_both (nat_lt d 10) (48 + d) (87 + d) (λ b. 11 ≤ b) (λ is. omega arith) (λ is. omega arith)

plain_low : (b : ℕ) → is_plain b ≡ true → 11 ≤ b
plain_low b h =
    let last = and_parts (nat_le 32 b && nat_le b 126 && not (b == 34)) (not (b == 92)) h in
    let next = and_parts (nat_le 32 b && nat_le b 126) (not (b == 34)) last.0 in
    let low = leb-true 32 b (and_parts (nat_le 32 b) (nat_le b 126) next.0).0 in
    omega arith

clear_quoted : (value : Bytes) → clear (flat_map quote_byte value) ≡ true
clear_quoted [] = refl
clear_quoted (b ∷ value) = cond_both (is_plain b) (b ∷ []) (codes "\\x" ++ hex_byte b) (λ form. clear (form ++ flat_map quote_byte value) ≡ true)
    (λ is. clear_byte b (flat_map quote_byte value) (plain_low b is) (clear_quoted value))
    (λ is. clear_byte 92 (120 ∷ hex_byte b ++ flat_map quote_byte value) (omega arith)
    (clear_byte 120 (hex_byte b ++ flat_map quote_byte value) (omega arith)
    (clear_byte (hex_digit (b / 16)) (hex_digit (b % 16) ∷ flat_map quote_byte value) (hex_digit_high (b / 16))
    (clear_byte (hex_digit (b % 16)) (flat_map quote_byte value) (hex_digit_high (b % 16)) (clear_quoted value)))))

clear_text : (value : Bytes) → clear (quote value) ≡ true
clear_text value = clear_byte 34 (flat_map quote_byte value ++ 34 ∷ []) (omega arith) (clear-append (flat_map quote_byte value) (34 ∷ []) (clear_quoted value) refl)

clear_text_or_null : (value : Option Bytes) → clear (quote_or_null value) ≡ true
clear_text_or_null None = refl
clear_text_or_null (Some value) = clear_text value

clear_whence : (w : Whence) → clear (whence_text w) ≡ true
clear_whence Start = refl
clear_whence Current = refl
clear_whence End = refl

clear_mode : (mode : Mode) → clear (mode_text mode) ≡ true
clear_mode Read = refl
clear_mode Write = refl
clear_mode ReadWrite = refl

clear_flag : (b : Bool) (name rest : Bytes) → clear name ≡ true → clear rest ≡ true → clear (flag_text b name ++ rest) ≡ true
clear_flag true name rest h k = clear-append (43 ∷ name) rest h k
clear_flag false name rest h k = k

clear_flags : (f : OpenFlags) → clear (flags_text f) ≡ true
clear_flags f =
    ap clear (flags_text-parts f)
    ∙ clear-append (mode_text f.mode) (after_mode f) (clear_mode f.mode)
    (clear_flag f.append (codes "append") (after_append f) refl
    (clear_flag f.create (codes "create") (after_create f) refl
    (clear_flag f.truncate (codes "trunc") (after_truncate f) refl
    (clear_flag f.exclusive (codes "excl") (after_exclusive f) refl
    (clear_flag f.no_follow (codes "nofollow") (after_no_follow f) refl
    (clear_flag f.directory (codes "dir") (after_directory f) refl
    (clear_flag f.close_on_exec (codes "cloexec") [] refl refl)))))))

clear_written : (lines : ℕ) → lines ≤ 256 → (a : Argument) → IsArgument lines a → clear (written_argument a) ≡ true
clear_written lines few (operand value) h = clear_operand value h
clear_written lines few (register value) h = clear_register value h
clear_written lines few (number value) h = clear_number value h
clear_written lines few (line value) h = let high = h.1 in clear_decimal value (omega arith)
clear_written lines few (place value) h = clear_decimal value (omega arith)
clear_written lines few (text value) h = clear_text value
clear_written lines few (text_or_null value) h = clear_text_or_null value
clear_written lines few (flags value) h = clear_flags value
clear_written lines few (whence value) h = clear_whence value
clear_written lines few (origin value) h = clear_origin value h

clear_arguments : (lines : ℕ) → lines ≤ 256 → (arguments : List Argument) → AllByRecursion (IsArgument lines) arguments → clear (flat_map (λ a. 32 ∷ written_argument a) arguments) ≡ true
clear_arguments lines few [] h = refl
clear_arguments lines few (a ∷ others) h =
    clear-append (32 ∷ written_argument a) (flat_map (λ b. 32 ∷ written_argument b) others) (clear_byte 32 (written_argument a) (omega arith) (clear_written lines few a h.0)) (clear_arguments lines few others h.1)

clear_name : (i : Instruction) → clear (form_of i).0 ≡ true
clear_name (Set r n) = refl
clear_name _ = refl

IsLine-clear : (bs : Bytes) → clear bs ≡ true → IsLine bs
IsLine-clear [] h = tt
IsLine-clear (b ∷ bs) h =
    let parts = and_parts (not (b == 10)) (clear bs) h in
    (eqb-false b 10 (not-true (b == 10) parts.0), IsLine-clear bs parts.1)

are_lines : (lines : ℕ) → lines ≤ 256 → (program : Program) → AllByRecursion (λ i. AllByRecursion (IsArgument lines) (form_of i).1) program → AllByRecursion IsLine (map written_line program)
are_lines lines few [] h = tt
are_lines lines few (i ∷ program) h = (
  IsLine-clear (written_line i) (clear-append (form_of i).0 (flat_map (λ a. 32 ∷ written_argument a) (form_of i).1) (clear_name i) (clear_arguments lines few (form_of i).1 h.0)),
  are_lines lines few program h.1,
)

-- ---- complete programs

ended_lines : (program : Program) → written_program program ≡ ended (map written_line program)
ended_lines [] = refl
ended_lines (i ∷ program) = ap (λ r. (written_line i ++ 10 ∷ []) ++ r) (ended_lines program)

map_length : (program : Program) → length (map written_line program) ≡ length program
map_length [] = refl
map_length (i ∷ program) = let rest = map_length program in omega arith

pub EncodesProgram-written : (program : Program) → IsProgram program → EncodesProgram (written_program program) program
EncodesProgram-written program h =
    let few = h.0 in
    let count = map_length program in
    let lines = are_lines (length program) few program h.1 in
    let encodes : EncodeLines (length (map written_line program)) (map written_line program) program =
    subst (λ n. EncodeLines n (map written_line program) program) (sym count) (encode_lines (length program) few program h.1) in
    (map written_line program, (lines, inl (ended_lines program)), omega arith, encodes)
