-- The text of `explain` is the run with additional lines.
use Rattle.std.specs.Prelude.{◌≡◌, ℕ, Bool, not, List, [], ◌∷◌, map, filter, codes, bytes_eq, Option}
use Rattle.std.specs.List.{list_any}
use Rattle.pv_model.specs.Answers.Explain.{explain_lines}
use Rattle.pv_model.specs.Machine.{AnswerLine, of_trace, answer_bytes, Bytes, Program, State, run}
use Rattle.pv_model.specs.Step.{run_text}

-- the words of lines that only explain
abbrev pub explaining_words : List Bytes
explaining_words = codes "STEP" ∷ codes "TEXT" ∷ codes "WHY" ∷ codes "PROC" ∷ codes "NEXT" ∷ []

abbrev pub only_explains : AnswerLine → Bool
only_explains l = list_any (bytes_eq l.word) explaining_words

abbrev pub without_explaining : List AnswerLine → List AnswerLine
without_explaining ls = filter (λ l. not (only_explains l)) ls

-- the remaining lines are the lines of the run
abbrev pub ExplainsTheRun : Type 0
ExplainsTheRun =
    (program_of : Bytes → Option Program) (pids : List ℕ) (s : State)
    → without_explaining (explain_lines program_of pids s) ≡ map of_trace (run program_of pids s).lines

-- the remaining text is the text of the run
abbrev pub ExplainsTheText : Type 0
ExplainsTheText =
    (program_of : Bytes → Option Program) (pids : List ℕ) (s : State)
    → answer_bytes (without_explaining (explain_lines program_of pids s)) ≡ run_text program_of pids s
