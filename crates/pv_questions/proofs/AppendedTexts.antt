-- Texts that are appended piece by piece.
use Rattle.std.proofs.Common.{◌≡◌, ◌∙◌, ◌++◌, ◌∷◌, [], ap, append_assoc, codes, sym}
use Rattle.std.specs.Prelude.{if◌then◌else◌, Result, Ok, Err, OnOk}
use Rattle.std.specs.Result.{is_ok}
use Rattle.pv_model.specs.Machine.{Bytes}
use Rattle.pv_model_questions.specs.Notes.{note_line}

-- three pieces, of which the last may fail
pub appended-thrice : {T E : Type 0} (r : Result T E) (old a b c first second third : Bytes) → first ≡ old ++ a → second ≡ first ++ b → third ≡ (if is_ok r then second ++ c else second)
    → OnOk r (third ≡ old ++ (a ++ (b ++ c)))
appended-thrice (Ok x) old a b c first second third one two three =
    three ∙ ap (λ bs. bs ++ c) (two ∙ ap (λ bs. bs ++ b) one) ∙ append_assoc (old ++ a) b c ∙ append_assoc old a (b ++ c)
appended-thrice (Err e) old a b c first second third one two three = tt

abbrev pub dropped : Bytes
dropped = codes ": pledged without unveil: add unveil(NULL, NULL) before the pledge, and the verdict covers it"

-- the note about a process, whose newline is part of its last piece
pub noted-pledge : {T E : Type 0} (r : Result T E) (old digits new : Bytes) → OnOk r (new ≡ old ++ (codes "pvsim: note: process " ++ (digits ++ (dropped ++ codes "\n"))))
    → OnOk r (new ≡ old ++ note_line (codes "process " ++ digits ++ dropped))
noted-pledge (Ok x) old digits new is = is ∙ ap (λ bs. old ++ (codes "pvsim: note: process " ++ bs)) (sym (append_assoc digits dropped (codes "\n")))
noted-pledge (Err e) old digits new is = tt
