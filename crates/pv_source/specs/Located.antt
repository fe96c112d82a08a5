-- The instructions of the programs of a source, with their lines in the source and in their programs.
use Rattle.std.specs.Prelude.{◌≡◌, ℕ, ◌+◌, true, List, [], ◌∷◌, ◌++◌, map, drop, flat_map, codes, Option, None, Some, Result}
use Rattle.std.specs.Fmt.{decimal}
use Rattle.std.specs.Global.{Vec}
use Rattle.pv_model.specs.Machine.{counted_from, Bytes, ended, Block, taken, blocks_of, program_lines, taken_lines, written_lines, quote}
use Rattle.pv_model.specs.Source.Blocks.{program}
use Rattle.pv_model.specs.Source.Judged.{exec_path, is_exec_block}
use Rattle.pv_model.specs.Source.Programs.{ProgramLine, count_instruction}
use Rattle.pv_source.specs.Appending.{AppendsLines}

-- an instruction: its line in the source, its line in its program, and its text
pub record LocatedInstruction : Type 0 where
  pub line : ℕ
  pub number : ℕ
  pub text : Bytes

-- the instruction of a line of a program, if it has one
abbrev pub located_instruction : ℕ → ℕ → Option Bytes → List LocatedInstruction
located_instruction line number None = []
located_instruction line number (Some text) = record { line = line; number = number; text = text } ∷ []

-- the instructions of lines; the first has this number
abbrev pub located_from : ℕ → List ProgramLine → List LocatedInstruction
located_from number [] = []
located_from number (line ∷ lines) = located_instruction line.number number line.instruction ++ located_from (number + count_instruction line.instruction) lines

-- the instructions of the program in a block
abbrev pub located_block : Block → List LocatedInstruction
located_block (program n words body) = located_from 1 (program_lines body)
located_block (taken n words body) = located_from 1 (taken_lines body)
located_block block = []

-- the path of the program in a block
abbrev pub block_path : Block → Option Bytes
block_path (program n words body) = exec_path words
block_path (taken n words body) = exec_path words
block_path block = None

-- the text of a place: a line of the source, the path of a program, and a line of the program
abbrev pub place_text : Bytes → ℕ → ℕ → Bytes
place_text path line number = decimal line ++ codes " " ++ quote path ++ codes ":" ++ decimal number ++ codes " "

abbrev pub located_text : Bytes → LocatedInstruction → Bytes
located_text path located = place_text path located.line located.number ++ located.text

-- success: the lines of exactly these instructions of the program with this path were appended
abbrev pub AppendsLocated : {T E : Type 0} → Bytes → List LocatedInstruction → (before after : Vec ℕ) → Result T E → Type 0
AppendsLocated path located before after result = AppendsLines (map (located_text path) located) before after result

abbrev pub located_texts : Option Bytes → List LocatedInstruction → List Bytes
located_texts None located = []
located_texts (Some path) located = map (located_text path) located

-- the lines that are written for a block: one for each instruction
abbrev pub located_block_lines : Block → List Bytes
located_block_lines block = located_texts (block_path block) (located_block block)

-- the lines that are written for a source
unfoldable pub located_lines : Bytes → Bytes
located_lines source = ended (flat_map located_block_lines (blocks_of source))

-- the instruction with number k is line k of the program that is written for the block, after the line with its path
abbrev pub NumbersAreOfTranslation : Type 0
NumbersAreOfTranslation =
    (block : Block) → is_exec_block block ≡ true
    → map (λ (located : LocatedInstruction). (located.number, located.text)) (located_block block) ≡ counted_from 1 (drop 1 (written_lines block))
