-- Programs in a source: their labels, the instructions that refer to them, and the lines with errors.
use Rattle.std.specs.Prelude.{ℕ, ◌+◌, min, Bool, true, false, ◌&&◌, ◌||◌, if◌then◌else◌, ◌==◌, List, [], ◌∷◌, ◌++◌, length, map, filter_map, codes, bytes_eq, is_err, Option, None, Some}
use Rattle.std.specs.Fmt.{decimal}
use Rattle.std.specs.List.{list_all, list_any}
use Rattle.pv_model.specs.declared.limits.TheConstants.{LINES}
use Rattle.pv_model.specs.Answers.Lines.{spaced}
use Rattle.pv_model.specs.Bytes.{Bytes}
use Rattle.pv_model.specs.Grammar.Instructions.{instruction_of}
use Rattle.pv_model.specs.Grammar.Lines.{is_digit}
use Rattle.pv_model.specs.Source.Words.{NumberedLine, is_letter, before_last, lines_that_count, last_word, with_last_word}

-- ---- labels

abbrev pub is_label_byte : ℕ → Bool
is_label_byte b = is_letter b || is_digit b || (b == 95) || (b == 45)

-- a letter, followed by letters, digits, _ and -
abbrev pub is_label : Bytes → Bool
is_label [] = false
is_label (b ∷ bs) = is_letter b && list_all is_label_byte bs

abbrev pub if_label : Option Bytes → Option Bytes
if_label None = None
if_label (Some name) = if is_label name then Some name else None

-- the label that a word defines: NAME of `NAME:`
abbrev pub label_of : Bytes → Option Bytes
label_of word = if_label (before_last 58 word)

-- a line with words: the label that it defines, and the words of its instruction, if it has one
pub record LabelledLine : Type 0 where
  pub number : ℕ
  pub label : Option Bytes
  pub words : List Bytes

abbrev pub after_label : ℕ → Bytes → List Bytes → Option Bytes → LabelledLine
after_label n word words None = record { number = n; label = None; words = word ∷ words }
after_label n word words (Some name) = record { number = n; label = Some name; words = words }

abbrev pub labelled_words : ℕ → List Bytes → LabelledLine
labelled_words n [] = record { number = n; label = None; words = [] }
labelled_words n (word ∷ words) = after_label n word words (label_of word)

-- if labels follow the last instruction, the last of their lines gets an `exit 0`
abbrev pub or_exit : List Bytes → List Bytes
or_exit [] = codes "exit" ∷ codes "0" ∷ []
or_exit (word ∷ words) = word ∷ words

abbrev pub with_exit : List LabelledLine → List LabelledLine
with_exit [] = []
with_exit (line ∷ []) = record line { words = or_exit line.words } ∷ []
with_exit (line ∷ next ∷ lines) = line ∷ with_exit (next ∷ lines)

-- the lines of a program between <<END and END
abbrev pub labelled_lines : List NumberedLine → List LabelledLine
labelled_lines body = with_exit (map (λ line. labelled_words line.0 line.1) (lines_that_count body))

-- the number of instructions on a line
abbrev pub count_words : List Bytes → ℕ
count_words [] = 0
count_words (word ∷ words) = 1

abbrev pub onto_labels : Option Bytes → ℕ → List (Bytes × ℕ) → List (Bytes × ℕ)
onto_labels None k labels = labels
onto_labels (Some name) k labels = (name, k) ∷ labels

-- the labels that lines define, each with the number of the next instruction; the first instruction has number k
abbrev pub labels_from : ℕ → List LabelledLine → List (Bytes × ℕ)
labels_from k [] = []
labels_from k (line ∷ lines) = onto_labels line.label k (labels_from (k + count_words line.words) lines)

-- the number that a label denotes
abbrev pub number_of_label : Bytes → List (Bytes × ℕ) → Option ℕ
number_of_label name [] = None
number_of_label name (label ∷ labels) = if bytes_eq label.0 name then Some label.1 else number_of_label name labels

-- ---- instructions

abbrev pub is_jump : Bytes → Bool
is_jump word =
    bytes_eq word (codes "jmp") || bytes_eq word (codes "jz") || bytes_eq word (codes "jnz") || bytes_eq word (codes "jneg")

abbrev pub begins_with_letter : Bytes → Bool
begins_with_letter [] = false
begins_with_letter (b ∷ bs) = is_letter b

abbrev pub or_word : Bytes → Option ℕ → Bytes
or_word word None = word
or_word word (Some number) = decimal number

module _ (labels : List (Bytes × ℕ)) where
  -- the target of a jump: a label is replaced by the number that it denotes
  abbrev pub target_word : Bytes → Bytes
  target_word word = if begins_with_letter word then or_word word (number_of_label word labels) else word

  -- the words of an instruction with its labels replaced
  abbrev pub without_labels : List Bytes → List Bytes
  without_labels [] = []
  without_labels (word ∷ words) =
      if is_jump word then word ∷ with_last_word (target_word (last_word words)) words
      else word ∷ words

  abbrev pub instruction_text : List Bytes → Option Bytes
  instruction_text [] = None
  instruction_text (word ∷ words) = Some (spaced (without_labels (word ∷ words)))

-- a line of a program: the label that it defines, and its instruction as it is written
pub record ProgramLine : Type 0 where
  pub number : ℕ
  pub label : Option Bytes
  pub instruction : Option Bytes

abbrev pub program_line_of : List (Bytes × ℕ) → LabelledLine → ProgramLine
program_line_of labels line = record { number = line.number; label = line.label; instruction = instruction_text labels line.words }

-- the lines of a program between <<END and END, with labels replaced
unfoldable pub program_lines : List NumberedLine → List ProgramLine
program_lines body = let lines = labelled_lines body in map (program_line_of (labels_from 1 lines)) lines

-- lines that are copied unchanged
abbrev pub taken_lines : List NumberedLine → List ProgramLine
taken_lines body = map (λ line. record { number = line.0; label = None; instruction = Some line.1 }) body

-- the instructions of lines
abbrev pub instructions_of : List ProgramLine → List Bytes
instructions_of lines = filter_map (λ line. line.instruction) lines

-- ---- errors

abbrev pub is_set_in : Option Bytes → List Bytes → Bool
is_set_in None names = false
is_set_in (Some name) names = list_any (bytes_eq name) names

abbrev pub and_label : Option Bytes → List Bytes → List Bytes
and_label None names = names
and_label (Some name) names = names ++ name ∷ []

abbrev pub count_instruction : Option Bytes → ℕ
count_instruction None = 0
count_instruction (Some text) = 1

-- whether the instruction after `before` others, in a program with `count` instructions, is invalid; the 257th always
-- is
abbrev pub is_invalid : ℕ → ℕ → Option Bytes → Bool
is_invalid count before None = false
is_invalid count before (Some text) = (before == LINES) || is_err (instruction_of (min count LINES) text)

abbrev pub reported_if : Bool → ℕ → List ℕ → List ℕ
reported_if true n reported = n ∷ reported
reported_if false n reported = reported

-- the lines with errors after lines with `names` as labels and `before` instructions: those that define a label again
-- or have an invalid instruction
abbrev pub invalid_lines : ℕ → List Bytes → ℕ → List ProgramLine → List ℕ
invalid_lines count names before [] = []
invalid_lines count names before (line ∷ lines) =
    reported_if (is_set_in line.label names || is_invalid count before line.instruction) line.number
    (invalid_lines count (and_label line.label names) (before + count_instruction line.instruction) lines)

-- the lines of a program that have errors
unfoldable pub program_errors : List ProgramLine → List ℕ
program_errors lines = invalid_lines (length (instructions_of lines)) [] 0 lines
