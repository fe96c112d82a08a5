-- The blocks of a source.
use Rattle.std.specs.Prelude.{◌≡◌, ℕ, ◌+◌, ◌≤◌, List, [], ◌∷◌, length, drop, Option, None, Some}
use Rattle.pv_source.specs.declared.blocks.Block.{Block as ReadBlock}
use Rattle.pv_source.specs.declared.blocks.Kind.{Kind}
use Rattle.pv_source.specs.declared.blocks.Kind.TheVariants.{Single, Program, Taken, CutOff, Schedule}
use Rattle.pv_source.specs.declared.lines.Lines.{Lines}
use Rattle.pv_source.specs.Reading.{IsWithin, numbered_lines, numbered_text, words_in}
use Rattle.pv_model.specs.Machine.{Block, single, taken, blocks_from, NumberedLine}
use Rattle.pv_model.specs.Source.Blocks.{program, cut_off, schedule}

abbrev pub block_by : Kind → ℕ → List (List ℕ) → List NumberedLine → Block
block_by Single n words body = single n words
block_by Program n words body = program n words body
block_by Taken n words body = taken n words body
block_by CutOff n words body = cut_off n
block_by Schedule n words body = schedule n words body

-- the parsed block
abbrev pub parsed_block : ReadBlock → Block
parsed_block b = block_by b.kind b.number (words_in b.words.now) (numbered_text (b.number + 1) b.body.now)

-- a parsed block, and the blocks of the lines after it
abbrev pub blocks_read : Option (ReadBlock × Lines) → List Block
blocks_read None = []
blocks_read (Some p) = parsed_block p.0 ∷ blocks_from (numbered_lines p.1) 0

-- the block and the lines after it agree with the specification's block and number of lines
abbrev pub ReadsBlock : Option (ReadBlock × Lines) → Option (Block × ℕ) → List NumberedLine → Type 0
ReadsBlock None block lines = block ≡ None
ReadsBlock (Some p) block lines = (count : ℕ) × (block ≡ Some (parsed_block p.0, count)) × (drop count lines ≡ numbered_lines p.1)

-- a block and the lines after it are within the given lines
abbrev pub IsInside : Option (ReadBlock × Lines) → Lines → Type 0
IsInside None lines = Unit {0}
IsInside (Some p) lines =
    (p.0.number + 1 + length p.0.body.now ≤ lines.number + length lines.text.now) × IsWithin p.1 lines × (length p.1.text.now ≤ length lines.text.now)
