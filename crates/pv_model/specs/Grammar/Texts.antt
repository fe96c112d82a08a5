-- Texts as relations: their lines, and the programs and schedules that they encode.
use Rattle.std.specs.Prelude.{◌≡◌, ◌≢◌, ◌⊎◌, ℕ, suc, ◌+◌, ◌≤◌, min, List, [], ◌∷◌, ◌++◌, length, flat_map}
use Rattle.std.specs.List.{AllByRecursion}
use Rattle.std.specs.Fmt.{decimal}
use Rattle.pv_model.specs.declared.fault.What.{What}
use Rattle.pv_model.specs.declared.fault.What.TheVariants.{TooMany}
use Rattle.pv_model.specs.declared.limits.TheConstants.{LINES, LAST_PROCESS, SCHEDULE_LINES}
use Rattle.pv_model.specs.Bytes.{Bytes}
use Rattle.pv_model.specs.Grammar.Forms.{EncodesLine, IsInvalid}
use Rattle.pv_model.specs.Grammar.Manifests.{with_line_end}
use Rattle.pv_model.specs.State.{Program}
use Rattle.pv_model.specs.Step.{Schedule}

-- a line does not contain an LF
abbrev pub IsLine : Bytes → Type 0
IsLine line = AllByRecursion (λ b. b ≢ 10) line

-- lines, each followed by an LF
abbrev pub ended : List Bytes → Bytes
ended lines = flat_map with_line_end lines

-- the last line is not empty and has no LF
abbrev pub LacksLastEnd : Bytes → List Bytes → Type 0
LacksLastEnd bytes lines = (front : List Bytes) × (last : Bytes) × (last ≢ []) × (lines ≡ front ++ last ∷ []) × (bytes ≡ ended front ++ last)

-- the lines of a text
abbrev pub HasLines : Bytes → List Bytes → Type 0
HasLines bytes lines = AllByRecursion IsLine lines × ((bytes ≡ ended lines) ⊎ LacksLastEnd bytes lines)

-- each line encodes its instruction, in a program with a number of lines
abbrev pub EncodeLines : ℕ → List Bytes → Program → Type 0
EncodeLines count [] [] = Unit {0}
EncodeLines count (line ∷ lines) (i ∷ program) = EncodesLine count line i × EncodeLines count lines program
EncodeLines count [] (i ∷ program) = ⊥
EncodeLines count (line ∷ lines) [] = ⊥

-- a program: at most 256 lines, each of which is an instruction
abbrev pub EncodesProgram : Bytes → Program → Type 0
EncodesProgram bytes program = (lines : List Bytes) × HasLines bytes lines × (length lines ≤ LINES) × EncodeLines (length lines) lines program

-- a line of a text, with the lines before it and after it
abbrev pub LineOfText : Bytes → List Bytes → Bytes → List Bytes → Type 0
LineOfText bytes front line rest = HasLines bytes (front ++ line ∷ rest)

-- the number of lines that a jump may target
abbrev pub reach : List Bytes → Bytes → List Bytes → ℕ
reach front line rest = min (length (front ++ line ∷ rest)) LINES

-- the lines encode instructions
abbrev pub AreInstructions : ℕ → List Bytes → Type 0
AreInstructions count lines = (program : Program) × EncodeLines count lines program

-- the first line that is not an instruction, with its error, or line 257 if the first 256 lines are instructions
abbrev pub IsFirstInvalid : Bytes → ℕ → What → Type 0
IsFirstInvalid bytes n what =
    (front : List Bytes) × (line : Bytes) × (rest : List Bytes) × LineOfText bytes front line rest × (n ≡ length front + 1)
    × AreInstructions (reach front line rest) front
    × (((n ≤ LINES) × IsInvalid (reach front line rest) line what) ⊎ ((n ≡ suc LINES) × (what ≡ TooMany)))

-- a process number, or a number of steps
abbrev pub IsCount : ℕ → Type 0
IsCount n = (1 ≤ n) × (n ≤ LAST_PROCESS)

abbrev pub EncodesTurn : Bytes → ℕ × ℕ → Type 0
EncodesTurn line turn =
    IsCount turn.0 × IsCount turn.1
    × (((line ≡ decimal turn.0) × (turn.1 ≡ 1)) ⊎ (line ≡ decimal turn.0 ++ 32 ∷ decimal turn.1))

abbrev pub EncodeTurns : List Bytes → Schedule → Type 0
EncodeTurns [] [] = Unit {0}
EncodeTurns (line ∷ lines) (turn ∷ schedule) = EncodesTurn line turn × EncodeTurns lines schedule
EncodeTurns [] (turn ∷ schedule) = ⊥
EncodeTurns (line ∷ lines) [] = ⊥

-- at most 65,536 lines encode a schedule
abbrev pub EncodeSchedule : List Bytes → Schedule → Type 0
EncodeSchedule lines schedule = (length lines ≤ SCHEDULE_LINES) × EncodeTurns lines schedule

abbrev pub EncodesSchedule : Bytes → Schedule → Type 0
EncodesSchedule bytes schedule = (lines : List Bytes) × HasLines bytes lines × EncodeSchedule lines schedule

-- the first line that is not a turn, or line 65,537 if the first 65,536 are turns
abbrev pub IsFirstNoTurn : List Bytes → ℕ → Type 0
IsFirstNoTurn lines n =
    (front : List Bytes) × (line : Bytes) × (rest : List Bytes) × (schedule : Schedule) × (lines ≡ front ++ line ∷ rest) × (n ≡ length front + 1)
    × EncodeTurns front schedule
    × (((n ≤ SCHEDULE_LINES) × ((turn : ℕ × ℕ) → EncodesTurn line turn → ⊥)) ⊎ (n ≡ suc SCHEDULE_LINES))
