use Rattle.std.proofs.Common.{◌∙◌, ap, sym}
use Rattle.pv_model.specs.declared.follow.Follow.TheVariants.{Last}
use Rattle.pv_model.specs.Machine.{State, Tree, resolve, root}
use Rattle.pv_questions.specs.Answers.{of_audit}
use Rattle.pv_questions.specs.Reasons.{node_audited, reasons_at}
use Rattle.pv_questions.proofs.WrittenAnswers.{answer-as, refusal-written}
use Rattle.pv_questions.proofs.answering.write_reasons_of.Goals as goal

pub returns-in-Ok : goal.returns-in-Ok
returns-in-Ok g c =
    answer-as (ap (λ n. of_audit (reasons_at c.args.session.now n)) (c.in-Ok.ensures ∙ ap (λ (t : Tree). node_audited (resolve t Last root c.args.path.now)) (c.tree.ensures ∙ ap (λ (s : State). s.tree) c.parts.ensures.value)))
    c.write_reasons_at.ensures

pub returns-in-Err : goal.returns-in-Err
returns-in-Err g c =
    refusal-written
    (sym (ap (λ n. of_audit (reasons_at c.args.session.now n)) (c.in-Err.ensures ∙ ap (λ (t : Tree). node_audited (resolve t Last root c.args.path.now)) (c.tree.ensures ∙ ap (λ (s : State). s.tree) c.parts.ensures.value))))
