use Rattle.std.proofs.Common.{sym}
use Rattle.pv_questions.specs.Answers.{last_state, run_started, state_answer}
use Rattle.pv_questions.proofs.CheckKinds.{start-kind}
use Rattle.pv_questions.proofs.QuestionAnswers.{always_ok, of_state, state-written}
use Rattle.pv_questions.proofs.WrittenAnswers.{answer-as, checked-written}
use Rattle.pv_questions.proofs.answering.write_after.Goals as goal

pub returns-in_err-session-clause-written : goal.returns-in_err-session-clause-written
returns-in_err-session-clause-written g c =
    answer-as (sym (of_state c.args.inputs c.args.question c.requires))
    (checked-written (run_started c.args.inputs) (λ it. state_answer c.args.question (last_state it)) _ c.from_residual.ensures.1
    (start-kind c.args.inputs) c.in_err-session.ensures.refused)

pub returns-clause-written : goal.returns-clause-written
returns-clause-written g c =
    state-written c.args.inputs g.W.Sink c.args.question c.requires c.in_ok-session.session _ _ _ _ c.in_ok-session.ensures.noted c.in_ok-session.ensures.left c.write_about.ensures

pub returns-clause-noted : goal.returns-clause-noted
returns-clause-noted g c = always_ok c.write_about.result c.in_ok-session.ensures.noted
