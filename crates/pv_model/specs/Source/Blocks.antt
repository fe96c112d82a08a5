-- The blocks of a source: each line, with the following lines that belong to it.
use Rattle.std.specs.Prelude.{ℕ, zero, suc, not, ◌&&◌, if◌then◌else◌, nat_le, List, [], ◌∷◌, length, take, codes, bytes_eq, Option, None, Some, option_map}
use Rattle.std.specs.List.{list_all}
use Rattle.pv_model.specs.Bytes.{Bytes, is_empty}
use Rattle.pv_model.specs.Grammar.Arguments.{without_front}
use Rattle.pv_model.specs.Grammar.Lines.{decimal_of}
use Rattle.pv_model.specs.Source.Words.{NumberedLine, is_letter, words_of, source_lines, last_word, is_alone}

-- a line with its number and its words, and the lines that belong to it
pub data Block : Type 0 where
  -- a line alone
  single : (n : ℕ) (words : List Bytes) → Block
  -- `exec TEXT <<END`, and the lines up to END
  program : (n : ℕ) (words : List Bytes) (body : List NumberedLine) → Block
  -- `exec TEXT K`, and the next K lines
  taken : (n : ℕ) (words : List Bytes) (body : List NumberedLine) → Block
  -- an `exec` line whose lines are missing; the source is not read any further
  cut_off : (n : ℕ) → Block
  -- the line `schedule`, and all lines after it
  schedule : (n : ℕ) (words : List Bytes) (body : List NumberedLine) → Block

abbrev pub if_letters : Option Bytes → Option Bytes
if_letters None = None
if_letters (Some mark) = if not (is_empty mark) && list_all is_letter mark then Some mark else None

-- the END of `<<END`
abbrev pub mark_of : Bytes → Option Bytes
mark_of word = if_letters (without_front (codes "<<") word)

-- the lines before the first that consists of END
abbrev pub lines_up_to : Bytes → List NumberedLine → Option (List NumberedLine)
lines_up_to mark [] = None
lines_up_to mark (line ∷ lines) = if is_alone mark (words_of line.1) then Some [] else option_map (λ body. line ∷ body) (lines_up_to mark lines)

-- a block, and the number of following lines that are read with it
abbrev pub exec_by : ℕ → List Bytes → List NumberedLine → Option Bytes → Option ℕ → Option (Block × ℕ)
exec_by n words lines (Some mark) count = option_map (λ body. (program n words body, suc (length body))) (lines_up_to mark lines)
exec_by n words lines None (Some count) = if nat_le count (length lines) then Some (taken n words (take count lines), count) else None
exec_by n words lines None None = None

-- the block of an `exec` line whose last word is <<END or K; other errors in the line do not matter here
abbrev pub exec_block : ℕ → List Bytes → List NumberedLine → Option (Block × ℕ)
exec_block n words lines = exec_by n words lines (mark_of (last_word words)) (decimal_of (last_word words))

abbrev pub or_cut_off : ℕ → (ℕ → List Block) → Option (Block × ℕ) → List Block
or_cut_off n onward None = cut_off n ∷ []
or_cut_off n onward (Some block) = block.0 ∷ onward block.1

-- the blocks from a line on, given its words
abbrev pub blocks_at : ℕ → List Bytes → List NumberedLine → (ℕ → List Block) → List Block
blocks_at n [] lines onward = onward 0
blocks_at n (word ∷ words) lines onward =
    if bytes_eq word (codes "schedule") then schedule n (word ∷ words) lines ∷ []
    else if bytes_eq word (codes "exec") then or_cut_off n onward (exec_block n (word ∷ words) lines)
    else single n (word ∷ words) ∷ onward 0

-- the blocks of lines, where the first `skipped` lines belong to the previous block
abbrev pub blocks_from : List NumberedLine → ℕ → List Block
blocks_from [] skipped = []
blocks_from (line ∷ lines) (suc skipped) = blocks_from lines skipped
blocks_from (line ∷ lines) zero = blocks_at line.0 (words_of line.1) lines (blocks_from lines)

unfoldable pub blocks_of : Bytes → List Block
blocks_of source = blocks_from (source_lines source) 0
