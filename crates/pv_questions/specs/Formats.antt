-- The format of a file: an image or a source.
use Rattle.std.specs.Prelude.{Bool, true, false, ◌||◌, ◌==◌, if◌then◌else◌, List, [], ◌∷◌, drop, codes, Option, None, Some}
use Rattle.std.specs.Char.{is_ascii_whitespace}
use Rattle.std.specs.List.{prefix_len}
use Rattle.pv_model.specs.Grammar.Arguments.{without_front}
use Rattle.pv_model.specs.Machine.{Bytes, lines_of}

-- a line without its first blanks
abbrev pub trimmed : Bytes → Bytes
trimmed line = drop (prefix_len is_ascii_whitespace line) line

-- nothing, or a comment
abbrev pub is_nothing : Bytes → Bool
is_nothing [] = true
is_nothing (b ∷ line) = b == 35

-- a word ends here
abbrev pub is_word_end : Bytes → Bool
is_word_end [] = true
is_word_end (b ∷ line) = b == 32 || b == 9 || b == 13

abbrev pub is_word_end_after : Option Bytes → Bool
is_word_end_after None = false
is_word_end_after (Some rest) = is_word_end rest

-- the first word is `image`
abbrev pub is_headed : Bytes → Bool
is_headed line = is_word_end_after (without_front (codes "image") line)

-- the first word of the first line that is neither blank nor a comment is `image`
abbrev pub heads_source : List Bytes → Bool
heads_source [] = false
heads_source (line ∷ lines) = if is_nothing (trimmed line) then heads_source lines else is_headed (trimmed line)

-- these bytes are a source, and not an image
unfoldable pub is_source : Bytes → Bool
is_source bytes = heads_source (lines_of bytes)
