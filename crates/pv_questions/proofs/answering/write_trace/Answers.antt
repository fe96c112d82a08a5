use Rattle.std.proofs.Common.{ap, inl, refl, subst}
use Rattle.pv_model.specs.Machine.{Schedule, steps_of, trace_bytes}
use Rattle.pv_run.specs.OfSession.Running.{run_of}
use Rattle.pv_run.specs.OfSession.Stopping.{StopsOn}
use Rattle.pv_run.specs.Run.{started_from, text_of}
use Rattle.pv_questions.specs.Answers.{of_text, run_started}
use Rattle.pv_questions.proofs.CheckKinds.{start-kind}
use Rattle.pv_questions.proofs.QuestionAnswers.{stopped-exactly}
use Rattle.pv_questions.proofs.WrittenAnswers.{answer-as, checked-written, next-written, stopped-written, whole-written}
use Rattle.pv_questions.proofs.answering.write_trace.Goals as goal

pub returns-in_err-session-clause-written : goal.returns-in_err-session-clause-written
returns-in_err-session-clause-written g c =
    checked-written (run_started c.args.inputs) (λ it. of_text (text_of it)) _ c.from_residual.ensures.1 (start-kind c.args.inputs) c.in_err-session.ensures.refused

pub returns-in_err-session-clause-exact : goal.returns-in_err-session-clause-exact
returns-in_err-session-clause-exact g c = λ e. inl refl

pub returns-in_err-run_schedule-clause-written : goal.returns-in_err-run_schedule-clause-written
returns-in_err-run_schedule-clause-written g c =
    next-written (run_started c.args.inputs) (λ it. of_text (text_of it)) _ c.in_ok-session.ensures.started
    (answer-as (ap (λ (ts : Schedule). of_text (trace_bytes (run_of c.in_ok-session.field-0.session ts).lines)) c.deref.ensures.value)
    (stopped-written c.from_residual-in_err-run_schedule.ensures.1 c.in_err-run_schedule.ensures.written))

pub returns-in_err-run_schedule-clause-exact : goal.returns-in_err-run_schedule-clause-exact
returns-in_err-run_schedule-clause-exact g c =
    let it = started_from c.in_ok-session.field-0.session c.in_ok-session.field-0.turns.items in
    stopped-exactly c.args.inputs it c.run_schedule.new.session _ _ c.in_err-run_schedule.field-0.0 _ c.in_ok-session.ensures.started c.from_residual-in_err-run_schedule.ensures.1
    (subst
    (λ (ts : Schedule). StopsOn c.in_err-run_schedule.field-0.0 (steps_of ts) it.state c.run_schedule.new.session (g.W.Sink.written c.args.out.now)
    (g.W.Sink.written c.run_schedule.new.trace))
    c.deref.ensures.value c.in_err-run_schedule.ensures.stopped)

pub returns-clause-written : goal.returns-clause-written
returns-clause-written g c =
    next-written (run_started c.args.inputs) (λ it. of_text (text_of it)) _ c.in_ok-session.ensures.started
    (answer-as (ap (λ (ts : Schedule). of_text (trace_bytes (run_of c.in_ok-session.field-0.session ts).lines)) c.deref.ensures.value)
    (whole-written refl c.in_ok-run_schedule.ensures.written))

pub returns-clause-exact : goal.returns-clause-exact
returns-clause-exact g c = λ e. cc e
