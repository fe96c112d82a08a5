-- The words of a line of a source. Blanks and comments separate words, except in quoted texts.
use Rattle.std.specs.Prelude.{ℕ, Bool, false, not, ◌&&◌, ◌||◌, if◌then◌else◌, ◌==◌, nat_le, List, [], ◌∷◌, map, filter, bytes_eq, Option, None, Some, option_map, unwrap_or}
use Rattle.std.specs.List.{list_any}
use Rattle.pv_model.specs.Answers.Lines.{counted_from}
use Rattle.pv_model.specs.Bytes.{Bytes, is_empty, onto_first}
use Rattle.pv_model.specs.Grammar.Lines.{lines_of}

-- a space or a tab
abbrev pub is_blank : ℕ → Bool
is_blank b = (b == 32) || (b == 9)

abbrev pub is_letter : ℕ → Bool
is_letter b = (nat_le 65 b && nat_le b 90) || (nat_le 97 b && nat_le b 122)

-- the position in a line: between words, in a word, or in the quoted text at the start of a word
pub data Reading : Type 0 where
  between in_word in_text : Reading

-- the position after the first byte of a word: in a quoted text if a closing quotation mark follows
abbrev pub begun : ℕ → Bytes → Reading
begun b bs = if (b == 34) && list_any (λ c. c == 34) bs then in_text else in_word

abbrev pub after_byte_of_text : ℕ → Reading
after_byte_of_text b = if b == 34 then in_word else in_text

-- parses one byte of a line; # between words starts a comment
abbrev pub word_step : ℕ → Bytes → (Reading → List Bytes) → Reading → List Bytes
word_step b bs onward between =
    if is_blank b then onward between
    else if b == 35 then []
    else onto_first b (onward (begun b bs))
word_step b bs onward in_word = if is_blank b then [] ∷ onward between else onto_first b (onward in_word)
word_step b bs onward in_text = onto_first b (onward (after_byte_of_text b))

-- the word that the end of a line ends
abbrev pub at_line_end : Reading → List Bytes
at_line_end between = []
at_line_end in_word = [] ∷ []
at_line_end in_text = [] ∷ []

abbrev pub words_from : Bytes → Reading → List Bytes
words_from [] reading = at_line_end reading
words_from (b ∷ bs) reading = word_step b bs (words_from bs) reading

-- the bytes before the last, if the last is this byte
abbrev pub before_last : ℕ → Bytes → Option Bytes
before_last last [] = None
before_last last (b ∷ []) = if b == last then Some [] else None
before_last last (b ∷ c ∷ bs) = option_map (λ front. b ∷ front) (before_last last (c ∷ bs))

-- a line without the CR before its LF
abbrev pub without_return : Bytes → Bytes
without_return line = unwrap_or (before_last 13 line) line

unfoldable pub words_of : Bytes → List Bytes
words_of line = words_from (without_return line) between

-- a line of a source: its number, counted from 1, and its bytes
abbrev pub NumberedLine : Type 0
NumberedLine = ℕ × Bytes

-- a line of a source: its number, and its words
abbrev pub NumberedWords : Type 0
NumberedWords = ℕ × List Bytes

abbrev pub source_lines : Bytes → List NumberedLine
source_lines source = counted_from 1 (lines_of source)

abbrev pub with_words : NumberedLine → NumberedWords
with_words line = (line.0, words_of line.1)

-- the lines that have words
abbrev pub lines_that_count : List NumberedLine → List NumberedWords
lines_that_count lines = filter (λ line. not (is_empty line.1)) (map with_words lines)

abbrev pub last_word : List Bytes → Bytes
last_word [] = []
last_word (word ∷ []) = word
last_word (word ∷ next ∷ words) = last_word (next ∷ words)

-- the words with the last one replaced
abbrev pub with_last_word : Bytes → List Bytes → List Bytes
with_last_word other [] = []
with_last_word other (word ∷ []) = other ∷ []
with_last_word other (word ∷ next ∷ words) = word ∷ with_last_word other (next ∷ words)

-- whether a word is the only one in its line
abbrev pub is_alone : Bytes → List Bytes → Bool
is_alone word [] = false
is_alone word (first ∷ []) = bytes_eq first word
is_alone word (first ∷ next ∷ words) = false
