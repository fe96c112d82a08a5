-- The arguments of instructions and of manifest lines. A parser returns the argument at the start of the bytes and the
-- bytes after it.
use Rattle.std.specs.Prelude.{ℕ, suc, ◌+◌, ◌-◌, ◌*◌, ℤ, pos, negsuc, Bool, true, false, ◌&&◌, if◌then◌else◌, ◌==◌, nat_le, [], ◌∷◌, length, codes, bytes_eq, Option, None, Some, option_map, option_and_then}
use Rattle.pv_model.specs.declared.instruction.Operand.{Operand}
use Rattle.pv_model.specs.declared.instruction.Operand.TheVariants.{Number, Register}
use Rattle.pv_model.specs.declared.instruction.Origin.{Origin}
use Rattle.pv_model.specs.declared.instruction.Origin.TheVariants.{WorkingDirectory, Descriptor}
use Rattle.pv_model.specs.declared.call.Whence.{Whence}
use Rattle.pv_model.specs.declared.call.Whence.TheVariants.{Set, Current, End}
use Rattle.pv_model.specs.declared.limits.TheConstants.{TEXT, NUMBER}
use Rattle.pv_model.specs.declared.open_flags.Mode.{Mode}
use Rattle.pv_model.specs.declared.open_flags.Mode.TheVariants.{Read, Write, ReadWrite}
use Rattle.pv_model.specs.declared.open_flags.OpenFlags.{OpenFlags}
use Rattle.pv_model.specs.Bytes.{Bytes, is_empty}
use Rattle.pv_model.specs.Grammar.Lines.{word_of, after_word, after_space, decimal_of}
use Rattle.pv_model.specs.Trace.{is_plain}

abbrev pub Parsed : Type 0 → Type 0
Parsed A = Option (A × Bytes)

-- the position in a quoted text: outside an escape, or in one
pub data Escape : Type 0 where
  outside : Escape
  after_backslash : Escape
  after_x : Escape
  after_digit : (high : ℕ) → Escape

-- the value of a lowercase hexadecimal digit
abbrev pub hex_value : ℕ → Option ℕ
hex_value b =
    if nat_le 48 b && nat_le b 57 then Some (b - 48)
    else if nat_le 97 b && nat_le b 102 then Some (b - 87)
    else None

abbrev pub onto_text : ℕ → Parsed Bytes → Parsed Bytes
onto_text b None = None
onto_text b (Some p) = Some (b ∷ p.0, p.1)

abbrev pub EscapeParser : Type 0
EscapeParser = Escape → Parsed Bytes

abbrev pub text_outside : ℕ → Bytes → EscapeParser → Parsed Bytes
text_outside b bs onward =
    if b == 34 then Some ([], bs)
    else if b == 92 then onward after_backslash
    else if is_plain b then onto_text b (onward outside)
    else None

abbrev pub first_digit : EscapeParser → Option ℕ → Parsed Bytes
first_digit onward None = None
first_digit onward (Some high) = onward (after_digit high)

abbrev pub second_digit : EscapeParser → ℕ → Option ℕ → Parsed Bytes
second_digit onward high None = None
second_digit onward high (Some low) = if 16 * high + low == 0 then None else onto_text (16 * high + low) (onward outside)

-- parses one byte of a quoted text
abbrev pub text_step : ℕ → Bytes → EscapeParser → Escape → Parsed Bytes
text_step b bs onward outside = text_outside b bs onward
text_step b bs onward after_backslash = if b == 120 then onward after_x else None
text_step b bs onward after_x = first_digit onward (hex_value b)
text_step b bs onward (after_digit high) = second_digit onward high (hex_value b)

-- parses the rest of a quoted text, up to the closing quotation mark
abbrev pub text_rest : Bytes → EscapeParser
text_rest [] escape = None
text_rest (b ∷ bs) escape = text_step b bs (text_rest bs) escape

abbrev pub if_short : Parsed Bytes → Parsed Bytes
if_short None = None
if_short (Some p) = if nat_le (length p.0) TEXT then Some p else None

-- a quoted text of at most 1,100 bytes
unfoldable pub text_at : Bytes → Parsed Bytes
text_at [] = None
text_at (b ∷ bs) = if b == 34 then if_short (text_rest bs outside) else None

-- an argument that is a single word
abbrev pub with_rest : {A : Type 0} → Bytes → Option A → Parsed A
with_rest rest None = None
with_rest rest (Some a) = Some (a, rest)

abbrev pub word_at : {A : Type 0} → (Bytes → Option A) → Bytes → Parsed A
word_at of bytes = with_rest (after_word bytes) (of (word_of bytes))

abbrev pub some_text : Parsed Bytes → Parsed (Option Bytes)
some_text None = None
some_text (Some p) = Some (Some p.0, p.1)

abbrev pub begins_text : Bytes → Bool
begins_text [] = false
begins_text (b ∷ bs) = b == 34

abbrev pub null_of : Bytes → Option (Option Bytes)
null_of word = if bytes_eq word (codes "null") then Some None else None

-- a quoted text, or `null`
abbrev pub text_or_null_at : Bytes → Parsed (Option Bytes)
text_or_null_at bytes = if begins_text bytes then some_text (text_at bytes) else word_at null_of bytes

-- the value of a number of 32 bits, after its sign
abbrev pub in_range : ℕ → Option ℕ → Option ℕ
in_range limit None = None
in_range limit (Some n) = if nat_le n limit then Some n else None

abbrev pub negative_of : Option ℕ → Option ℤ
negative_of None = None
negative_of (Some n) = if n == 0 then None else Some (negsuc (n - 1))

abbrev pub parsed_number : Bytes → Option ℤ
parsed_number [] = None
parsed_number (b ∷ bs) =
    if b == 45 then negative_of (in_range (suc NUMBER) (decimal_of bs)) else option_map pos (in_range NUMBER (decimal_of (b ∷ bs)))

abbrev pub register_digit : Bytes → Option ℕ
register_digit [] = None
register_digit (b ∷ []) = if nat_le 48 b && nat_le b 55 then Some (b - 48) else None
register_digit (b ∷ c ∷ bs) = None

-- a register, `r0` to `r7`
abbrev pub register_of : Bytes → Option ℕ
register_of [] = None
register_of (b ∷ bs) = if b == 114 then register_digit bs else None

abbrev pub or_number : Option ℕ → Option ℤ → Option Operand
or_number (Some r) n = Some (Register r)
or_number None n = option_map Number n

-- a number or a register
abbrev pub operand_of : Bytes → Option Operand
operand_of word = or_number (register_of word) (parsed_number word)

abbrev pub whence_of : Bytes → Option Whence
whence_of word =
    if bytes_eq word (codes "set") then Some Set
    else if bytes_eq word (codes "cur") then Some Current
    else if bytes_eq word (codes "end") then Some End
    else None

-- the origin of an openat
abbrev pub origin_of : Bytes → Option Origin
origin_of word = if bytes_eq word (codes "cwd") then Some WorkingDirectory else option_map Descriptor (operand_of word)

-- the bytes after a prefix, or None if the bytes do not start with it
abbrev pub without_front : Bytes → Bytes → Option Bytes
without_front [] bs = Some bs
without_front (a ∷ front) [] = None
without_front (a ∷ front) (b ∷ bs) = if a == b then without_front front bs else None

-- whether a flag is present, and the bytes after it
abbrev pub flag_or_none : Bytes → Option Bytes → Bool × Bytes
flag_or_none word None = (false, word)
flag_or_none word (Some rest) = (true, rest)

abbrev pub flag_at : Bytes → Bytes → Bool × Bytes
flag_at name word = flag_or_none word (without_front (43 ∷ name) word)

-- the mode at the start of a word, and the bytes after it
abbrev pub mode_after_r : Bytes → Parsed Mode
mode_after_r [] = Some (Read, [])
mode_after_r (b ∷ bs) = if b == 119 then Some (ReadWrite, bs) else Some (Read, b ∷ bs)

abbrev pub mode_at : Bytes → Parsed Mode
mode_at [] = None
mode_at (b ∷ bs) =
    if b == 114 then mode_after_r bs
    else if b == 119 then Some (Write, bs)
    else None

abbrev pub if_nothing_left : Bytes → OpenFlags → Option OpenFlags
if_nothing_left [] flags = Some flags
if_nothing_left (b ∷ bs) flags = None

-- the flags after a mode, in their fixed order
abbrev pub flags_after : Mode → Bytes → Option OpenFlags
flags_after mode word =
    let append = flag_at (codes "append") word in
    let create = flag_at (codes "create") append.1 in
    let truncate = flag_at (codes "trunc") create.1 in
    let exclusive = flag_at (codes "excl") truncate.1 in
    let no_follow = flag_at (codes "nofollow") exclusive.1 in
    let directory = flag_at (codes "dir") no_follow.1 in
    let close_on_exec = flag_at (codes "cloexec") directory.1 in
    if_nothing_left close_on_exec.1 (record {
      mode = mode;
      append = append.0;
      create = create.0;
      truncate = truncate.0;
      exclusive = exclusive.0;
      no_follow = no_follow.0;
      directory = directory.0;
      close_on_exec = close_on_exec.0;
    })

abbrev pub flags_of_mode : Parsed Mode → Option OpenFlags
flags_of_mode None = None
flags_of_mode (Some p) = flags_after p.0 p.1

unfoldable pub parsed_flags : Bytes → Option OpenFlags
parsed_flags word = flags_of_mode (mode_at word)

abbrev pub operand_at : Bytes → Parsed Operand
operand_at bytes = word_at operand_of bytes

abbrev pub register_at : Bytes → Parsed ℕ
register_at bytes = word_at register_of bytes

abbrev pub number_at : Bytes → Parsed ℤ
number_at bytes = word_at parsed_number bytes

abbrev pub whence_at : Bytes → Parsed Whence
whence_at bytes = word_at whence_of bytes

abbrev pub origin_at : Bytes → Parsed Origin
origin_at bytes = word_at origin_of bytes

abbrev pub flags_at : Bytes → Parsed OpenFlags
flags_at bytes = word_at parsed_flags bytes

-- an argument after a space
abbrev pub argument : {A : Type 0} → (Bytes → Parsed A) → Bytes → Parsed A
argument at bytes = option_and_then at (after_space bytes)

abbrev pub if_last : {A : Type 0} → Parsed A → Option A
if_last None = None
if_last (Some p) = if is_empty p.1 then Some p.0 else None

-- the arguments of a line without arguments: nothing may remain
abbrev pub no_argument : Bytes → Option (Unit {0})
no_argument bytes = if is_empty bytes then Some tt else None

abbrev pub one_argument : {A : Type 0} → (Bytes → Parsed A) → Bytes → Option A
one_argument first bytes = if_last (argument first bytes)

module _ {A B : Type 0} where
  abbrev pub and_argument : (Bytes → Parsed B) → Parsed A → Option (A × B)
  and_argument second None = None
  and_argument second (Some p) = option_map (λ b. (p.0, b)) (one_argument second p.1)

  abbrev pub two_arguments : (Bytes → Parsed A) → (Bytes → Parsed B) → Bytes → Option (A × B)
  two_arguments first second bytes = and_argument second (argument first bytes)

module _ {A B C : Type 0} where
  abbrev pub and_two : (Bytes → Parsed B) → (Bytes → Parsed C) → Parsed A → Option (A × B × C)
  and_two second third None = None
  and_two second third (Some p) = option_map (λ q. (p.0, q.0, q.1)) (two_arguments second third p.1)

  abbrev pub three_arguments : (Bytes → Parsed A) → (Bytes → Parsed B) → (Bytes → Parsed C) → Bytes → Option (A × B × C)
  three_arguments first second third bytes = and_two second third (argument first bytes)
