use Rattle.std.proofs.Common.{◌∙◌, ap, refl, sym}
use Rattle.pv_model.specs.Machine.{state_lines}
use Rattle.pv_questions.specs.Answers.{of_lines, state_answer}
use Rattle.pv_questions.proofs.QuestionAnswers.{other_state}
use Rattle.pv_questions.proofs.WrittenAnswers.{all-written, answer-as, failed-written}
use Rattle.pv_questions.proofs.answering.write_about.Goals as goal

pub returns-in-Reach : goal.returns-in-Reach
returns-in-Reach g c = answer-as (sym (ap (λ q. state_answer q c.args.session.now) c.in-Reach.is)) c.write_permissions.ensures

pub returns-in-Audit : goal.returns-in-Audit
returns-in-Audit g c = answer-as (sym (ap (λ q. state_answer q c.args.session.now) c.in-Audit.is)) c.write_audit.ensures

pub returns-in-Reasons : goal.returns-in-Reasons
returns-in-Reasons g c = answer-as (sym (ap (λ q. state_answer q c.args.session.now) c.in-Reasons.is)) c.write_every_reason.ensures

pub returns-in_err-write_state-in_default : goal.returns-in_err-write_state-in_default
returns-in_err-write_state-in_default g c =
    answer-as
    (ap (λ s. of_lines (state_lines s)) c.parts.ensures.value
    ∙ sym (other_state c.args.question c.args.session.now c.in_default.not-Reach c.in_default.not-Audit c.in_default.not-Reasons))
    (failed-written c.from_residual.ensures.1 c.in_err-write_state-in_default.ensures)

pub returns-in_ok-write_state-in_default : goal.returns-in_ok-write_state-in_default
returns-in_ok-write_state-in_default g c =
    answer-as
    (ap (λ s. of_lines (state_lines s)) c.parts.ensures.value
    ∙ sym (other_state c.args.question c.args.session.now c.in_default.not-Reach c.in_default.not-Audit c.in_default.not-Reasons))
    (all-written refl c.in_ok-write_state-in_default.ensures)
