-- A step that was made, and its explained lines, given the parts of the states before and after it.
use Rattle.std.specs.Prelude.{◌≡◌, ⊤, ℕ, IsTrue, List, [], ◌∷◌, ◌++◌, map, flat_map, Option, None, Some}
use Rattle.pv_model.specs.declared.call.Call.{Call}
use Rattle.pv_model.specs.declared.place.Place.{Place}
use Rattle.pv_model.specs.Machine.{answer, AnswerLine, of_trace, Setting, entries_of_table, call_of, program_of, inside, calls_for, next, Process, State, process_at, with_process, Word, gio_word, promise_words, unveil_words, buffer_of, Tree, is_directory_at}
use Rattle.pv_model.specs.Trace.{gone_lines}
use Rattle.pv_trace.specs.Steps.{first_lines_of, end_lines_of, moved_by}
use Rattle.pv_answers.specs.OfUnveil.Up.{directory_of_place}
use Rattle.pv_step_lines.specs.declared.making.MadeCall.{MadeCall}
use Rattle.pv_step_lines.specs.declared.making.MadeStep.{MadeStep}
use Rattle.pv_step_lines.specs.declared.making.MadeStep.TheVariants.{Gone, Register, Call as CallMade}
use Rattle.pv_step_lines.specs.Before.{IsBefore, place_before}
use Rattle.pv_step_lines.specs.Moved.{IsEmptyOrSized}
use Rattle.pv_step_lines.specs.Parts.{promise_part, table_part, moved_part}

-- ---- the lines

module _ (pid : ℕ) (mine : List Setting) (m : MadeCall) (after : State) where
  abbrev pub first_part_lines : List AnswerLine
  first_part_lines = map of_trace (first_lines_of pid (call_of m.call) m.answer.walks)

  abbrev pub promise_check_lines : List AnswerLine
  promise_check_lines = flat_map (promise_part pid m.before.pledge (call_of m.call)) (promise_words (call_of m.call) m.answer.outcome)

  abbrev pub table_lines_of : Option Process → List AnswerLine
  table_lines_of None = []
  table_lines_of (Some q) =
      flat_map (table_part after.tree (entries_of_table q.table) mine pid (call_of m.call) (place_before m.before m.answer.walks))
      (unveil_words (call_of m.call) m.answer.walks m.answer.outcome)

  abbrev pub table_lines : List AnswerLine
  table_lines = table_lines_of (process_at after pid)

  abbrev pub moved_lines : List AnswerLine
  moved_lines =
      flat_map (moved_part pid after m.before.file (call_of m.call)) (moved_by (buffer_of (process_at after pid)) (call_of m.call) m.answer.outcome)

  abbrev pub lines_at_end : List AnswerLine
  lines_at_end = map of_trace (end_lines_of pid (call_of m.call) m.answer.outcome)

  -- the lines of a call
  unfoldable pub call_made_lines : List AnswerLine
  call_made_lines = first_part_lines ++ promise_check_lines ++ table_lines ++ moved_lines ++ lines_at_end

-- the lines of a step
abbrev pub made_lines : ℕ → List Setting → MadeStep → State → List AnswerLine
made_lines pid mine Gone after = map of_trace (gone_lines pid)
made_lines pid mine (Register line) after = []
made_lines pid mine (CallMade m) after = call_made_lines pid mine m after

-- the line of the process before the step
abbrev pub line_before_step : MadeStep → Option ℕ
line_before_step Gone = None
line_before_step (Register line) = Some line
line_before_step (CallMade m) = Some m.before.line

-- ---- the step

-- a call was made in state s and left this state
pub record IsMadeCall (s : State) (pid : ℕ) (m : MadeCall) (after : State) : Type 0 where
  pub me : Process
  pub lives : process_at s pid ≡ Some me
  pub comes : next me ≡ calls_for (call_of m.call)
  pub answered : answer program_of s pid (call_of m.call) ≡ record { after = after; outcome = m.answer.outcome; walks = m.answer.walks }
  pub before : IsBefore s pid me (call_of m.call) m.before

-- an instruction on registers was carried out
pub record IsMadeInside (s : State) (pid line : ℕ) (after : State) : Type 0 where
  pub me : Process
  pub lives : process_at s pid ≡ Some me
  pub appeared : line ≡ me.line
  pub then_is : Process
  pub comes : next me ≡ inside then_is
  pub left : after ≡ with_process s pid then_is

abbrev pub IsMade : State → ℕ → MadeStep → State → Type 0
IsMade s pid Gone after = (process_at s pid ≡ None) × (after ≡ s)
IsMade s pid (Register line) after = IsMadeInside s pid line after
IsMade s pid (CallMade m) after = IsMadeCall s pid m after

-- ---- conditions on the data of the lines

abbrev pub IsInDirectory : Tree → Option Place → Type 0
IsInDirectory t None = ⊤
IsInDirectory t (Some place) = IsTrue (is_directory_at t (directory_of_place place))

-- the bytes in a line
abbrev pub AreEmptyOrSized : Call → List Word → Type 0
AreEmptyOrSized call [] = ⊤
AreEmptyOrSized call (gio_word direction bytes ∷ ws) = IsEmptyOrSized call bytes
AreEmptyOrSized call (w ∷ ws) = ⊤

-- the place of a refused walk is still in a directory, and the bytes have their size
pub record IsFitCall (pid : ℕ) (m : MadeCall) (after : State) : Type 0 where
  pub place : (unveil_words (call_of m.call) m.answer.walks m.answer.outcome ≡ [] → ⊥) → IsInDirectory after.tree (place_before m.before m.answer.walks)
  pub bytes : AreEmptyOrSized (call_of m.call) (moved_by (buffer_of (process_at after pid)) (call_of m.call) m.answer.outcome)

abbrev pub IsFit : ℕ → MadeStep → State → Type 0
IsFit pid (CallMade m) after = IsFitCall pid m after
IsFit pid made after = ⊤
