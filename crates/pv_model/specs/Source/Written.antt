-- The text that is written for a source.
use Rattle.std.specs.Prelude.{List, [], ◌∷◌, length, map, flat_map}
use Rattle.std.specs.Fmt.{decimal}
use Rattle.pv_model.specs.Answers.Lines.{spaced}
use Rattle.pv_model.specs.Bytes.{Bytes}
use Rattle.pv_model.specs.Grammar.Texts.{ended}
use Rattle.pv_model.specs.Source.Blocks.{Block, single, program, taken, cut_off, schedule}
use Rattle.pv_model.specs.Source.Programs.{program_lines, instructions_of}
use Rattle.pv_model.specs.Source.Words.{NumberedLine, lines_that_count, with_last_word}

-- the bytes of lines that are copied unchanged
abbrev pub bytes_of_lines : List NumberedLine → List Bytes
bytes_of_lines lines = map (λ line. line.1) lines

abbrev pub counted_program : List Bytes → List Bytes → List Bytes
counted_program words instructions = spaced (with_last_word (decimal (length instructions)) words) ∷ instructions

-- the lines that are written for a block
abbrev pub written_lines : Block → List Bytes
written_lines (single n words) = spaced words ∷ []
written_lines (program n words body) = counted_program words (instructions_of (program_lines body))
written_lines (taken n words body) = spaced words ∷ bytes_of_lines body
written_lines (cut_off n) = []
written_lines (schedule n words body) = spaced words ∷ map (λ line. spaced line.1) (lines_that_count body)

unfoldable pub text_of_blocks : List Block → Bytes
text_of_blocks blocks = ended (flat_map written_lines blocks)
