-- The bytes of a call's lines, part by part.
use Rattle.std.proofs.Common.{◌≡◌, ◌∙◌, ap, ap₂, sym, refl, ℕ, List, [], ◌∷◌, ◌++◌, map}
use Rattle.std.specs.Prelude.{flat_map}
use Rattle.std.proofs.lemmas.Grind.{flat_map-append}
use Rattle.pv_model.specs.Machine.{AnswerLine, answer_bytes, answer_line_bytes, of_trace, Setting, Bytes, call_of, State, process_at, Line, Word, trace_bytes, promise_words, buffer_of}
use Rattle.pv_model.specs.Trace.{line_bytes}
use Rattle.pv_trace.specs.Steps.{first_lines_of, end_lines_of, moved_by}
use Rattle.pv_step_lines.specs.declared.making.MadeCall.{MadeCall}
use Rattle.pv_step_lines.specs.Made.{first_part_lines, promise_check_lines, table_lines, moved_lines, lines_at_end, call_made_lines}
use Rattle.pv_step_lines.specs.Parts.{promise_part, moved_part}

pub trace-bytes : (ls : List Line) → trace_bytes ls ≡ answer_bytes (map of_trace ls)
trace-bytes [] = refl
trace-bytes (l ∷ ls) = ap (λ (bs : Bytes). line_bytes l ++ bs) (trace-bytes ls)

-- the bytes of two parts
two-parts : (xs ys : List AnswerLine) → answer_bytes (xs ++ ys) ≡ answer_bytes xs ++ answer_bytes ys
two-parts xs ys = flat_map-append answer_line_bytes xs ys

module _ (pid : ℕ) (mine : List Setting) (m : MadeCall) (after : State) where
  abbrev pub first_bytes : Bytes
  first_bytes = trace_bytes (first_lines_of pid (call_of m.call) m.answer.walks)

  abbrev pub promise_bytes : List Word → Bytes
  promise_bytes reported = answer_bytes (flat_map (promise_part pid m.before.pledge (call_of m.call)) reported)

  abbrev pub table_bytes : State → Bytes
  table_bytes seen = answer_bytes (table_lines pid mine m seen)

  abbrev pub moved_bytes : State → List Word → Bytes
  moved_bytes seen reported = answer_bytes (flat_map (moved_part pid seen m.before.file (call_of m.call)) reported)

  abbrev pub last_bytes : Bytes
  last_bytes = trace_bytes (end_lines_of pid (call_of m.call) m.answer.outcome)

  pub call-bytes : (promised moved : List Word) → promised ≡ promise_words (call_of m.call) m.answer.outcome → moved ≡ moved_by (buffer_of (process_at after pid)) (call_of m.call) m.answer.outcome
      → (seen : State) → seen ≡ after → first_bytes ++ promise_bytes promised ++ table_bytes seen ++ moved_bytes seen moved ++ last_bytes ≡ answer_bytes (call_made_lines pid mine m after)
  unfolding call_made_lines
  call-bytes promised moved are gave seen is =
      let first = first_part_lines pid mine m after in
      let promise = promise_check_lines pid mine m after in
      let table = table_lines pid mine m after in
      let gives = moved_lines pid mine m after in
      let last = lines_at_end pid mine m after in
      ap₂ (λ (a b : Bytes). a ++ b)
      (ap₂ (λ (a b : Bytes). a ++ b)
      (ap₂ (λ (a b : Bytes). a ++ b) (ap₂ (λ (a b : Bytes). a ++ b) (trace-bytes (first_lines_of pid (call_of m.call) m.answer.walks)) (ap promise_bytes are)) (ap table_bytes is))
      (ap₂ (λ (t : State) (reported : List Word). moved_bytes t reported) is gave))
      (trace-bytes (end_lines_of pid (call_of m.call) m.answer.outcome))
      ∙ sym
      (two-parts (first ++ promise ++ table ++ gives) last
      ∙ ap (λ (bs : Bytes). bs ++ answer_bytes last)
      (two-parts (first ++ promise ++ table) gives
      ∙ ap (λ (bs : Bytes). bs ++ answer_bytes gives) (two-parts (first ++ promise) table ∙ ap (λ (bs : Bytes). bs ++ answer_bytes table) (two-parts first promise))))
