-- The first of the two values of a pledge(2) that is refused.
use Rattle.std.proofs.Common.{◌≡◌, ◌∙◌, ap, sym, refl, ℕ, Bool, true, cond, codes, Option, None, Result, Ok, Err}
use Rattle.std.specs.Prelude.{OnOk, IfErr}
use Rattle.std.specs.Result.{is_err}
use Rattle.pv_model.specs.declared.promise.Promise.{Promise}
use Rattle.pv_model.specs.Answers.Explain.{increase_text}
use Rattle.pv_model.specs.Machine.{answer_line_bytes, Bytes, Promises, is_lenient, narrow_promises}
use Rattle.pv_promises.specs.Pledge.{Pledged, both_preserved, narrow_both}
use Rattle.pv_step_lines.specs.Parts.{refused_increase_text, why}

preserved-err : (first : Result (Option Promises) Promise) (second : Option Promises) → is_err (both_preserved first (Ok second)) ≡ is_err first
preserved-err (Ok preserved) second = refl
preserved-err (Err p) second = refl

-- a missing second value is not refused
pub first-refused : {T : Type 0} (held now : Pledged) (asked : Option Promises) (r : Result T Promise)
    → OnOk r (narrow_both held asked None ≡ Ok now) → IfErr r (λ p. narrow_both held asked None ≡ Err p)
    → is_err r ≡ is_err (narrow_promises (is_lenient held.promises) held.promises asked)
first-refused held now asked (Ok done) preserved refused = sym (sym (preserved-err (narrow_promises (is_lenient held.promises) held.promises asked) held.execpromises) ∙ ap is_err preserved)
first-refused held now asked (Err p) preserved refused = sym (sym (preserved-err (narrow_promises (is_lenient held.promises) held.promises asked) held.execpromises) ∙ ap is_err refused)

-- the line of the first value
pub first-line : (pid : ℕ) (held : Pledged) (asked exec_asked now : Option Promises) → true ≡ is_err (narrow_promises (is_lenient held.promises) held.promises asked) → now ≡ held.promises
    → answer_line_bytes (why pid (increase_text (codes "promises") asked now)) ≡ answer_line_bytes (why pid (refused_increase_text held asked exec_asked))
first-line pid held asked exec_asked now refused is =
    ap (λ (text : Bytes). answer_line_bytes (why pid text))
    (ap (increase_text (codes "promises") asked) is
    ∙ ap (λ (b : Bool). cond b (increase_text (codes "promises") asked held.promises) (increase_text (codes "execpromises") exec_asked held.execpromises)) refused)
