use Rattle.std.proofs.Common.{◌∙◌, ap, refl, sym}
use Rattle.pv_model.specs.Machine.{reach_lines}
use Rattle.pv_questions.specs.Answers.{of_lines, reach_answer}
use Rattle.pv_questions.proofs.WrittenAnswers.{all-written, answer-as, failed-written}
use Rattle.pv_questions.proofs.answering.write_permissions.Goals as goal

pub returns-in-Some : goal.returns-in-Some
returns-in-Some g c = answer-as (sym (ap (reach_answer c.args.session.now) c.in-Some.is)) c.write_permissions_of.ensures

pub returns-in_err-write_reach-in-None : goal.returns-in_err-write_reach-in-None
returns-in_err-write_reach-in-None g c =
    answer-as (ap (λ s. of_lines (reach_lines s)) c.parts.ensures.value ∙ sym (ap (reach_answer c.args.session.now) c.in-None.is))
    (failed-written c.from_residual.ensures.1 c.in_err-write_reach-in-None.ensures)

pub returns-in_ok-write_reach-in-None : goal.returns-in_ok-write_reach-in-None
returns-in_ok-write_reach-in-None g c =
    answer-as (ap (λ s. of_lines (reach_lines s)) c.parts.ensures.value ∙ sym (ap (reach_answer c.args.session.now) c.in-None.is))
    (all-written refl c.in_ok-write_reach-in-None.ensures)
