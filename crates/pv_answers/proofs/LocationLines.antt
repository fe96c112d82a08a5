-- The lines of the location of a process.
use Rattle.std.proofs.Common.{◌≡◌, ℕ, [], ◌∷◌, ◌++◌, append_assoc, append-nil, length, codes, decimal, Option, None, Some, option_map, IsSome, refl, ap, ap₂, sym, ◌∙◌}
use Rattle.std.specs.Option.{unwrap_or}
use Rattle.pv_model.specs.Machine.{answer_bytes, answer_line, answer_line_bytes, Bytes, parent_of, next, Program, Process, ProcessRecord as Record, live, ended_record, live_process, text_line}
use Rattle.pv_model.specs.Answers.ProcessRecord.{ended_text, live_text, next_text}
use Rattle.pv_calls_state.specs.OfProcs.declared.record.ProcessRecord.{ProcessRecord}
use Rattle.pv_calls_state.specs.OfProcs.Parts.{record_of}
use Rattle.pv_calls_state.specs.OfProcs.ProcessTable.{ended_process}
use Rattle.pv_answers.specs.Holdings.{live_words, location_of}
use Rattle.pv_answers.specs.Texts.{line_front, next_words}

abbrev words_by : ℕ → ℕ → ℕ → Bytes
words_by parent line count = codes "live, parent " ++ decimal parent ++ codes ", line " ++ decimal line ++ codes " of " ++ decimal count

-- the words for a live process, from its parts
pub live-words-are : (o : Option Record) (owned : ProcessRecord) (program : Program) (parent line count : ℕ)
    → option_map record_of (live_process o) ≡ Some owned → option_map (λ (me : Process). me.program) (live_process o) ≡ Some program
    → parent ≡ unwrap_or (option_map parent_of o) 0 → line ≡ owned.context.line → count ≡ length program
    → words_by parent line count ≡ live_words (live_process o)
live-words-are None owned program parent line count is of up at many = cc is
live-words-are (Some (ended_record _ status)) owned program parent line count is of up at many = cc is
live-words-are (Some (live p)) owned program parent line count is of up at many =
    let same : owned ≡ record_of p = cc is in
    let own : program ≡ p.program = cc of in
    ap (λ n. words_by n line count) up ∙ ap (λ n. words_by p.parent n count) (at ∙ ap (λ (r : ProcessRecord). r.context.line) same)
    ∙ ap (words_by p.parent p.line) (many ∙ ap length own)

pub one-line : (pid : ℕ) (word text : Bytes) → line_front pid word ++ text ++ 10 ∷ [] ≡ answer_line_bytes (answer_line pid word text)
unfolding text_line
one-line pid word text = refl

-- the two lines of a live process
pub live-lines-are : (pid : ℕ) (o : Option Record) → IsSome (live_process o)
    → line_front pid (codes "PROC") ++ live_words (live_process o) ++ (10 ∷ []) ++ line_front pid (codes "NEXT") ++ next_words (live_process o) ++ (10 ∷ []) ≡ answer_bytes (location_of pid o)
live-lines-are pid None is = cc is
live-lines-are pid (Some (ended_record parent status)) is = cc is
live-lines-are pid (Some (live p)) is =
    let first : Bytes = line_front pid (codes "PROC") ++ live_text p ++ 10 ∷ [] in
    ap (λ (bs : Bytes). bs ++ 10 ∷ []) (append_assoc first (line_front pid (codes "NEXT")) (next_text (next p)))
    ∙ append_assoc first (line_front pid (codes "NEXT") ++ next_text (next p)) (10 ∷ [])
    ∙ ap₂ (λ (a b : Bytes). a ++ b) (one-line pid (codes "PROC") (live_text p))
    (one-line pid (codes "NEXT") (next_text (next p)) ∙ sym (append-nil (answer_line_bytes (answer_line pid (codes "NEXT") (next_text (next p))))))

-- the line of an ended process
pub ended-line-is : (pid : ℕ) (o : Option Record) (parent status : ℕ) → ended_process o ≡ Some (parent, status)
    → line_front pid (codes "PROC") ++ ended_text parent status ++ 10 ∷ [] ≡ answer_bytes (location_of pid o)
ended-line-is pid None parent status is = cc is
ended-line-is pid (Some (live p)) parent status is = cc is
ended-line-is pid (Some (ended_record up code)) parent status is =
    let both : (parent, status) ≡ (up, code) = cc is in
    ap (λ (x : ℕ × ℕ). line_front pid (codes "PROC") ++ ended_text x.0 x.1 ++ 10 ∷ []) both ∙ one-line pid (codes "PROC") (ended_text up code)
    ∙ sym (append-nil (answer_line_bytes (answer_line pid (codes "PROC") (ended_text up code))))
