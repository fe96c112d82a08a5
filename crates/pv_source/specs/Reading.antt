-- Words and lines of a source.
use Rattle.std.specs.Prelude.{◌≡◌, ℕ, suc, ◌+◌, ◌≤◌, false, List, [], ◌∷◌, ◌++◌, length, take, drop, flat_map, codes, Option, None, Some}
use Rattle.pv_model.specs.Machine.{counted_from, Bytes, lines_of, NumberedLine, NumberedWords, between, lines_that_count, words_from, words_of}
use Rattle.pv_source.specs.declared.lines.Line.{Line}
use Rattle.pv_source.specs.declared.lines.Lines.{Lines}
use Rattle.pv_model.specs.Source.Blocks.{lines_up_to}
use Rattle.pv_model.specs.Source.Words.{is_blank}

-- ---- words

-- the words of bytes, if the first byte is not inside a word
abbrev pub words_in : Bytes → List Bytes
words_in bytes = words_from bytes between

-- the first byte is not a blank
abbrev pub DoesNotBeginWithBlank : Bytes → Type 0
DoesNotBeginWithBlank [] = Unit {0}
DoesNotBeginWithBlank (b ∷ bs) = is_blank b ≡ false

-- words, each after a space
abbrev pub spaced_more : List Bytes → Bytes
spaced_more words = flat_map (λ word. codes " " ++ word) words

-- the first of some words
abbrev pub HasFirstWord : Bytes → List Bytes → Type 0
HasFirstWord first words = (others : List Bytes) × (words ≡ first ∷ others)

-- ---- lines

-- the lines of a text with their numbers
abbrev pub numbered_text : ℕ → Bytes → List NumberedLine
numbered_text n text = counted_from n (lines_of text)

abbrev pub numbered_lines : Lines → List NumberedLine
numbered_lines lines = numbered_text lines.number lines.text.now

-- the lines that have a word
abbrev pub worded_in : Lines → List NumberedWords
worded_in lines = lines_that_count (numbered_lines lines)

-- lines end where other lines end, or before
abbrev pub IsWithin : Lines → Lines → Type 0
IsWithin rest lines = rest.number + length rest.text.now ≤ lines.number + length lines.text.now

-- a line that has a word
abbrev pub worded : Line → NumberedWords
worded line = (line.number, words_in line.words.now)

abbrev pub if_words : ℕ → List Bytes → List NumberedLine → Option (NumberedWords × List NumberedLine) → Option (NumberedWords × List NumberedLine)
if_words n [] lines onward = onward
if_words n (word ∷ words) lines onward = Some ((n, word ∷ words), lines)

-- the first line that has a word, and the lines after it
abbrev pub first_that_counts : List NumberedLine → Option (NumberedWords × List NumberedLine)
first_that_counts [] = None
first_that_counts (line ∷ lines) = if_words line.0 (words_of line.1) lines (first_that_counts lines)

-- a body is the lines before the first that is the mark alone, and the rest is the lines after that one
pub record Ends (mark : Bytes) (lines : Lines) (body : Bytes) (rest : Lines) : Type 0 where
  pub before : lines_up_to mark (numbered_lines lines) ≡ Some (numbered_text lines.number body)
  pub after : drop (suc (length (lines_of body))) (numbered_lines lines) ≡ numbered_lines rest

-- a body is the first `count` lines, and the rest is the lines after them
pub record Takes (count : ℕ) (lines : Lines) (body : Bytes) (rest : Lines) : Type 0 where
  pub enough : count ≤ length (lines_of lines.text.now)
  pub first : take count (numbered_lines lines) ≡ numbered_text lines.number body
  pub after : drop count (numbered_lines lines) ≡ numbered_lines rest
