-- The results of parsers.
use Rattle.std.specs.Prelude.{◌≡◌, ℕ, if◌then◌else◌, ◌==◌, min, [], ◌∷◌, ◌++◌, option_map, Option, None, Some}
use Rattle.std.specs.Borrow.{Bor}
use Rattle.pv_model.specs.Machine.{Bytes, Parsed, decimal_of}
use Rattle.pv_model.specs.Grammar.Arguments.{outside, text_rest}

-- a parser returns the grammar's value with the bytes after it, or fails if the grammar does
abbrev pub Reads : {A : Type 0} → Option (A × Bor Bytes) → Parsed A → Type 0
Reads None parsed = parsed ≡ None
Reads (Some p) parsed = parsed ≡ Some (p.0, p.1.now)

-- a parsed text with a front before it
abbrev pub onto_front : Bytes → Parsed Bytes → Parsed Bytes
onto_front front None = None
onto_front front (Some p) = Some (front ++ p.0, p.1)

-- the bytes before the rest represent themselves, so parsing them yields this front
abbrev pub IsFront : Bytes → Bytes → Bytes → Type 0
IsFront front rest bytes = onto_front front (text_rest rest outside) ≡ text_rest bytes outside

-- the end of a text: its closing quotation mark
abbrev pub text_end : Bytes → Parsed Bytes
text_end [] = None
text_end (b ∷ bs) = if b == 34 then Some ([], bs) else None

-- a number saturated to 32 bits
abbrev pub up_to_greatest : ℕ → ℕ
up_to_greatest n = min n 4294967295

-- the number of a decimal word, saturated to 32 bits
abbrev pub saturated_number : Bytes → Option ℕ
saturated_number word = option_map up_to_greatest (decimal_of word)
