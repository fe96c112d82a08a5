use Rattle.std.proofs.Common.{◌∙◌, ap, refl, sym, None}
use Rattle.pv_model.specs.Machine.{State}
use Rattle.pv_questions.specs.Answers.{of_audit, of_text}
use Rattle.pv_questions.specs.Reasons.{if_audited, with_reasons}
use Rattle.pv_questions.proofs.WrittenAnswers.{all-written, answer-as, failed-written, refusal-written}
use Rattle.pv_questions.proofs.answering.write_reasons_at.Goals as goal

pub returns-in_err-write_reasons-in-Ok : goal.returns-in_err-write_reasons-in-Ok
returns-in_err-write_reasons-in-Ok g c =
    answer-as
    (ap (λ (s : State). of_text (with_reasons None s c.args.node c.in-Ok.found)) c.parts.ensures.value
    ∙ ap (λ a. of_audit (if_audited None c.args.session.now c.args.node a)) c.in-Ok.ensures.found)
    (failed-written c.from_residual.ensures.1 c.in_err-write_reasons-in-Ok.ensures)

pub returns-in_ok-write_reasons-in-Ok : goal.returns-in_ok-write_reasons-in-Ok
returns-in_ok-write_reasons-in-Ok g c =
    answer-as
    (ap (λ (s : State). of_text (with_reasons None s c.args.node c.in-Ok.found)) c.parts.ensures.value
    ∙ ap (λ a. of_audit (if_audited None c.args.session.now c.args.node a)) c.in-Ok.ensures.found)
    (all-written refl c.in_ok-write_reasons-in-Ok.ensures)

pub returns-in-Err : goal.returns-in-Err
returns-in-Err g c = refusal-written (sym (ap (λ a. of_audit (if_audited None c.args.session.now c.args.node a)) c.in-Err.ensures.found))
