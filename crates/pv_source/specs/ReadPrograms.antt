-- The lines of a program in a source.
use Rattle.std.specs.Prelude.{ℕ, List, [], ◌∷◌, map, Option, None, Some, option_map}
use Rattle.std.specs.Borrow.{Bor}
use Rattle.pv_model.specs.Machine.{Bytes, LabelledLine, instruction_text, labelled_lines, program_lines, taken_lines}
use Rattle.pv_source.specs.declared.lines.Lines.{Lines}
use Rattle.pv_source.specs.declared.programs.Label.{Label}
use Rattle.pv_source.specs.declared.programs.Labelled.{Labelled}
use Rattle.pv_source.specs.Reading.{numbered_lines, words_in}
use Rattle.pv_model.specs.Source.Programs.{ProgramLine}

abbrev pub borrowed_bytes : Bor Bytes → Bytes
borrowed_bytes bytes = bytes.now

abbrev pub name_value : Option (Bor Bytes) → Option Bytes
name_value name = option_map borrowed_bytes name

abbrev pub labelled_value : Labelled → LabelledLine
labelled_value l = record { number = l.number; label = name_value l.label; words = words_in l.words.now }

abbrev pub label_value : Label → Bytes × ℕ
label_value l = (l.name.now, l.number)

abbrev pub label_values : List Label → List (Bytes × ℕ)
label_values labels = map label_value labels

-- the instruction of a line, with the numbers of labels
abbrev pub instruction_with : List Label → Labelled → Option Bytes
instruction_with labels line = instruction_text (label_values labels) (words_in line.words.now)

-- the lines of a program up to END, with their labels and their words
abbrev pub labelled_in : Lines → List LabelledLine
labelled_in lines = labelled_lines (numbered_lines lines)

-- the lines of a program up to END, with their instructions
abbrev pub program_lines_in : Lines → List ProgramLine
program_lines_in lines = program_lines (numbered_lines lines)

-- the lines of a program that are copied unchanged
abbrev pub taken_in : Lines → List ProgramLine
taken_in lines = taken_lines (numbered_lines lines)

-- a parsed line, and those of the lines after it
abbrev pub then_labelled : Option (Labelled × Lines) → List LabelledLine
then_labelled None = []
then_labelled (Some p) = labelled_value p.0 ∷ labelled_in p.1
