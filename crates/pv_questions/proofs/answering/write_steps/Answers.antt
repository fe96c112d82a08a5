use Rattle.std.proofs.Common.{ap, refl}
use Rattle.pv_explain.specs.Errors.{explained_lines}
use Rattle.pv_model.specs.Machine.{Schedule, steps_of}
use Rattle.pv_questions.specs.Answers.{of_lines, run_started}
use Rattle.pv_questions.proofs.CheckKinds.{start-kind}
use Rattle.pv_questions.proofs.WrittenAnswers.{answer-as, checked-written, next-written, no_memory-written, stopped-written, whole-written}
use Rattle.pv_questions.proofs.answering.write_steps.Goals as goal

pub returns-in_err-session : goal.returns-in_err-session
returns-in_err-session g c =
    checked-written (run_started c.args.inputs) (λ it. of_lines (explained_lines c.args.extra (steps_of it.schedule) it.state)) _ c.from_residual.ensures.1
    (start-kind c.args.inputs) c.in_err-session.ensures.refused

pub returns-in_err-explainer : goal.returns-in_err-explainer
returns-in_err-explainer g c = no_memory-written c.from_residual-in_err-explainer.ensures.1

pub returns-in_err-explain_schedule : goal.returns-in_err-explain_schedule
returns-in_err-explain_schedule g c =
    next-written (run_started c.args.inputs) (λ it. of_lines (explained_lines c.args.extra (steps_of it.schedule) it.state)) _ c.in_ok-session.ensures.started
    (answer-as (ap (λ (ts : Schedule). of_lines (explained_lines c.args.extra (steps_of ts) c.in_ok-session.field-0.session)) c.deref.ensures.value)
    (stopped-written c.from_residual-in_err-explain_schedule.ensures.1 c.in_err-explain_schedule.ensures.written))

pub returns : goal.returns
returns g c =
    next-written (run_started c.args.inputs) (λ it. of_lines (explained_lines c.args.extra (steps_of it.schedule) it.state)) _ c.in_ok-session.ensures.started
    (answer-as (ap (λ (ts : Schedule). of_lines (explained_lines c.args.extra (steps_of ts) c.in_ok-session.field-0.session)) c.deref.ensures.value)
    (whole-written refl c.in_ok-explain_schedule.ensures.written))
