-- Messages.
use Rattle.std.specs.Prelude.{◌≡◌, ℕ, ◌++◌, [], ◌∷◌, Bool, true, ◌&&◌, if◌then◌else◌, nat_le, length, take, flat_map, codes}
use Rattle.std.specs.Fmt.{decimal}
use Rattle.std.specs.List.{list_all}
use Rattle.pv_model.specs.Machine.{Bytes, hex_byte}
use Rattle.pv_source.specs.declared.explaining.saying.Part.{Part}
use Rattle.pv_source.specs.declared.explaining.saying.Part.TheVariants.{Plain, Marked, Number, Hex}

-- a byte from 20 to 7E
abbrev pub is_printable : ℕ → Bool
is_printable b = nat_le 32 b && nat_le b 126

-- bytes that form one line
abbrev pub IsPrintable : Bytes → Type 0
IsPrintable bytes = list_all is_printable bytes ≡ true

-- the text of a byte, which is its number if it is not printable
abbrev pub said_byte : ℕ → Bytes
said_byte b = if is_printable b then b ∷ [] else codes "\\x" ++ hex_byte b

-- the text of bytes
abbrev pub printable_text : Bytes → Bytes
printable_text bytes = flat_map said_byte bytes

-- the text of bytes of the source: of the first 57 if there are more than 60
abbrev pub said_excerpt : Bytes → Bytes
said_excerpt bytes = if nat_le (length bytes) 60 then printable_text bytes else printable_text (take 57 bytes) ++ codes "..."

-- the text of an excerpt in quotation marks
abbrev pub said_marked : Bytes → Bytes
said_marked bytes = codes "'" ++ said_excerpt bytes ++ codes "'"

-- the text of a part
abbrev pub said_part : Part → Bytes
said_part (Plain bytes) = printable_text bytes.now
said_part (Marked bytes) = said_marked bytes.now
said_part (Number n) = printable_text (decimal n)
said_part (Hex b) = hex_byte b
