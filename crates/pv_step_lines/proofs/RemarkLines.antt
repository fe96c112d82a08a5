-- A line and its remarks, as they are written.
use Rattle.std.proofs.Common.{◌≡◌, ap, sym, ℕ, codes, List, [], ◌∷◌, ◌++◌, Option}
use Rattle.std.proofs.lemmas.List.{append-nil}
use Rattle.pv_model.specs.declared.call.Call.{Call}
use Rattle.pv_model.specs.declared.call.Call.TheVariants.{Unveil}
use Rattle.pv_model.specs.declared.place.Place.{Place}
use Rattle.pv_model.specs.Machine.{AnswerLine, answer_bytes, answer_line_bytes, Setting, Bytes, Tree, Table}
use Rattle.pv_model.specs.Trace.{table_locked}
use Rattle.pv_step_lines.specs.Parts.{table_reasons, why}

-- a line and its remarks, as the only part
pub with-remarks : (l : AnswerLine) (ls : List AnswerLine) → answer_line_bytes l ++ answer_bytes ls ≡ answer_bytes ((l ∷ ls) ++ [])
with-remarks l ls = ap (λ (xs : List AnswerLine). answer_bytes (l ∷ xs)) (sym (append-nil ls))

-- a line with one remark
pub with-remark : (l remark : AnswerLine) → answer_line_bytes l ++ answer_line_bytes remark ≡ answer_bytes (l ∷ remark ∷ [])
with-remark l remark = ap (λ (bs : Bytes). answer_line_bytes l ++ bs) (sym (append-nil (answer_line_bytes remark)))

-- the remark of a locked table
pub locked-line : (t : Tree) (table : Table) (mine : List Setting) (pid : ℕ) (call : Call) (place : Option Place)
    → answer_line_bytes (why pid (codes "the table is locked")) ≡ answer_bytes (table_reasons t table mine pid call place table_locked)
locked-line t table mine pid (Unveil path permissions) place = sym (append-nil (answer_line_bytes (why pid (codes "the table is locked"))))
locked-line t table mine pid call place = sym (append-nil (answer_line_bytes (why pid (codes "the table is locked"))))
