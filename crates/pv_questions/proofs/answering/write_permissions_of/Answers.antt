use Rattle.std.proofs.Common.{◌∙◌, ap, refl, sym}
use Rattle.pv_model.specs.Answers.Reach.{reach_of_one}
use Rattle.pv_questions.specs.Answers.{process_answer}
use Rattle.pv_questions.proofs.QuestionAnswers.{dead-answer, live-answer}
use Rattle.pv_questions.proofs.WrittenAnswers.{all-written, answer-as, failed-written, refusal-written}
use Rattle.pv_questions.proofs.answering.write_permissions_of.Goals as goal

pub returns-in_err-write_reach_of-in-Some : goal.returns-in_err-write_reach_of-in-Some
returns-in_err-write_reach_of-in-Some g c =
    answer-as (live-answer c.parts-parts.result.now c.args.pid _ _ c.in-Some.ensures ∙ ap (λ s. process_answer (reach_of_one s c.args.pid)) c.parts-parts.ensures.value)
    (failed-written c.from_residual.ensures.1 c.in_err-write_reach_of-in-Some.ensures)

pub returns-in_ok-write_reach_of-in-Some : goal.returns-in_ok-write_reach_of-in-Some
returns-in_ok-write_reach_of-in-Some g c =
    answer-as (live-answer c.parts-parts.result.now c.args.pid _ _ c.in-Some.ensures ∙ ap (λ s. process_answer (reach_of_one s c.args.pid)) c.parts-parts.ensures.value)
    (all-written refl c.in_ok-write_reach_of-in-Some.ensures)

pub returns-in-None : goal.returns-in-None
returns-in-None g c =
    refusal-written (sym (ap (λ s. process_answer (reach_of_one s c.args.pid)) c.parts-parts.ensures.value) ∙ dead-answer c.parts-parts.result.now c.args.pid _ c.in-None.ensures)
