-- The number that a label denotes.
use Rattle.std.specs.Prelude.{◌≡◌, ◌≢◌, ℕ, suc, List, ◌∷◌, ◌++◌, length, map, Some}
use Rattle.std.specs.List.{AllByRecursion}
use Rattle.pv_model.specs.Machine.{Bytes, LabelledLine, labels_from, program_line_of, instructions_of}
use Rattle.pv_model.specs.Source.Programs.{number_of_label}

-- the instructions of lines, with labels replaced by numbers
abbrev pub instructions : List (Bytes × ℕ) → List LabelledLine → List Bytes
instructions labels lines = instructions_of (map (program_line_of labels) lines)

-- a line defines a label, and no earlier line does
pub record IsSetAt (name : Bytes) (front : List LabelledLine) (line : LabelledLine) : Type 0 where
  pub sets : line.label ≡ Some name
  pub first : AllByRecursion (λ other. other.label ≢ Some name) front

-- a label denotes the number of the first instruction on that line or after it
pub record Denotes (name : Bytes) (labels : List (Bytes × ℕ)) (lines front rest : List LabelledLine) : Type 0 where
  pub number : number_of_label name labels ≡ Some (suc (length (instructions labels front)))
  pub follows : instructions labels lines ≡ instructions labels front ++ instructions labels rest

abbrev pub LabelsDenoteLines : Type 0
LabelsDenoteLines =
    (name : Bytes) (front rest : List LabelledLine) (line : LabelledLine) → IsSetAt name front line
    → Denotes name (labels_from 1 (front ++ line ∷ rest)) (front ++ line ∷ rest) front (line ∷ rest)
