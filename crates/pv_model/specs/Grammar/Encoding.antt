-- The encodings of words, as relations between values and bytes.
use Rattle.std.specs.Prelude.{◌≡◌, ℕ, ◌+◌, ◌*◌, ◌<◌, ◌≤◌, ℤ, pos, negsuc, IsTrue, [], ◌∷◌, ◌++◌, length, codes, Option, None, Some}
use Rattle.std.specs.Fmt.{decimal, signed_decimal}
use Rattle.pv_model.specs.declared.instruction.Operand.{Operand}
use Rattle.pv_model.specs.declared.instruction.Operand.TheVariants.{Number, Register}
use Rattle.pv_model.specs.declared.instruction.Origin.{Origin}
use Rattle.pv_model.specs.declared.instruction.Origin.TheVariants.{WorkingDirectory, Descriptor}
use Rattle.pv_model.specs.declared.call.Whence.{Whence}
use Rattle.pv_model.specs.declared.limits.TheConstants.{TEXT, NUMBER, REGISTERS}
use Rattle.pv_model.specs.declared.open_flags.OpenFlags.{OpenFlags}
use Rattle.pv_model.specs.Bytes.{Bytes}
use Rattle.pv_model.specs.Trace.{hex_byte, is_plain, flags_text, whence_text}

-- a decimal number of any length: one digit, or a nonzero decimal number followed by one digit
pub data Decimal : ℕ → Bytes → Type 0 where
  one_digit : (d : ℕ) → d < 10 → Decimal d ((48 + d) ∷ [])
  one_more : (n d : ℕ) (front : Bytes) → 0 < n → d < 10 → Decimal n front → Decimal (10 * n + d) (front ++ (48 + d) ∷ [])

-- a number in the range of 32 bits
abbrev pub IsNumber : ℤ → Type 0
IsNumber (pos n) = n ≤ NUMBER
IsNumber (negsuc n) = n ≤ NUMBER

abbrev pub EncodesNumber : ℤ → Bytes → Type 0
EncodesNumber n word = IsNumber n × (word ≡ signed_decimal n)

abbrev pub EncodesRegister : ℕ → Bytes → Type 0
EncodesRegister r word = (r < REGISTERS) × (word ≡ codes "r" ++ decimal r)

abbrev pub EncodesOperand : Operand → Bytes → Type 0
EncodesOperand (Number n) word = EncodesNumber n word
EncodesOperand (Register r) word = EncodesRegister r word

-- the bytes between the quotation marks of a text: a plain byte encodes itself, and an escape encodes the byte of its
-- two digits, which is not 00
pub data EncodesBytes : Bytes → Bytes → Type 0 where
  nothing : EncodesBytes [] []
  plain : (b : ℕ) (value encoded : Bytes) → IsTrue (is_plain b) → EncodesBytes value encoded → EncodesBytes (b ∷ value) (b ∷ encoded)
  escaped : (b : ℕ) (value encoded : Bytes) → 0 < b → b < 256 → EncodesBytes value encoded → EncodesBytes (b ∷ value) (codes "\\x" ++ hex_byte b ++ encoded)

-- a quoted text of at most 1,100 bytes
abbrev pub EncodesText : Bytes → Bytes → Type 0
EncodesText value word = (encoded : Bytes) × EncodesBytes value encoded × (length value ≤ TEXT) × (word ≡ 34 ∷ encoded ++ 34 ∷ [])

abbrev pub EncodesTextOrNull : Option Bytes → Bytes → Type 0
EncodesTextOrNull None word = word ≡ codes "null"
EncodesTextOrNull (Some value) word = EncodesText value word

-- the mode, and each flag at most once, in the order of a trace
abbrev pub EncodesFlags : OpenFlags → Bytes → Type 0
EncodesFlags flags word = word ≡ flags_text flags

abbrev pub EncodesWhence : Whence → Bytes → Type 0
EncodesWhence whence word = word ≡ whence_text whence

-- the origin of an openat: the working directory, or a descriptor
abbrev pub EncodesOrigin : Origin → Bytes → Type 0
EncodesOrigin WorkingDirectory word = word ≡ codes "cwd"
EncodesOrigin (Descriptor d) word = EncodesOperand d word
