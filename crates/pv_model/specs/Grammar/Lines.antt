-- Lines of a text, and the words of a line.
use Rattle.std.specs.Prelude.{ℕ, ◌+◌, ◌-◌, ◌*◌, Bool, false, not, ◌&&◌, if◌then◌else◌, ◌==◌, nat_le, List, [], ◌∷◌, Option, None, Some}
use Rattle.std.specs.List.{list_all}
use Rattle.pv_model.specs.Bytes.{Bytes, is_empty, onto_first}

-- the lines of a text: each ends with an LF, which may be missing after the last line
abbrev pub lines_of : Bytes → List Bytes
lines_of [] = []
lines_of (b ∷ bs) = if b == 10 then [] ∷ lines_of bs else onto_first b (lines_of bs)

-- the bytes before the first space
abbrev pub word_of : Bytes → Bytes
word_of [] = []
word_of (b ∷ bs) = if b == 32 then [] else b ∷ word_of bs

-- the bytes from the first space on
abbrev pub after_word : Bytes → Bytes
after_word [] = []
after_word (b ∷ bs) = if b == 32 then b ∷ bs else after_word bs

-- the bytes after a space
abbrev pub after_space : Bytes → Option Bytes
after_space [] = None
after_space (b ∷ bs) = if b == 32 then Some bs else None

abbrev pub is_digit : ℕ → Bool
is_digit b = nat_le 48 b && nat_le b 57

-- whether the first of several digits is 0
abbrev pub has_leading_zero : Bytes → Bool
has_leading_zero [] = false
has_leading_zero (b ∷ []) = false
has_leading_zero (b ∷ c ∷ bs) = b == 48

-- whether bytes are a decimal number, of any length, without leading zeros
abbrev pub is_decimal : Bytes → Bool
is_decimal bs = not (is_empty bs) && list_all is_digit bs && not (has_leading_zero bs)

-- the number that digits denote after those that denote `front`
abbrev pub value_from : ℕ → Bytes → ℕ
value_from front [] = front
value_from front (b ∷ bs) = value_from (10 * front + (b - 48)) bs

-- the number that a decimal denotes
abbrev pub decimal_of : Bytes → Option ℕ
decimal_of bs = if is_decimal bs then Some (value_from 0 bs) else None
