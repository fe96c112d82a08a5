use Rattle.std.proofs.Common.{ap, refl}
use Rattle.pv_model.specs.Machine.{Schedule, program_of, steps_of}
use Rattle.pv_policy.specs.OfNeeds.Granted.{lines_of_demands}
use Rattle.pv_questions.specs.Answers.{of_lines, run_started}
use Rattle.pv_questions.proofs.CheckKinds.{start-kind}
use Rattle.pv_questions.proofs.WrittenAnswers.{answer-as, checked-written, next-written, stopped-written, whole-written}
use Rattle.pv_questions.proofs.answering.write_needs.Goals as goal

pub returns-in_err-session : goal.returns-in_err-session
returns-in_err-session g c =
    checked-written (run_started c.args.inputs) (λ it. of_lines (lines_of_demands program_of c.args.granted (steps_of it.schedule) it.state)) _ c.from_residual.ensures.1
    (start-kind c.args.inputs) c.in_err-session.ensures.refused

pub returns-in_err-write_demands : goal.returns-in_err-write_demands
returns-in_err-write_demands g c =
    next-written (run_started c.args.inputs) (λ it. of_lines (lines_of_demands program_of c.args.granted (steps_of it.schedule) it.state)) _ c.in_ok-session.ensures.started
    (answer-as (ap (λ (ts : Schedule). of_lines (lines_of_demands program_of c.args.granted (steps_of ts) c.in_ok-session.field-0.session)) c.deref.ensures.value)
    (stopped-written c.from_residual-in_err-write_demands.ensures.1 c.in_err-write_demands.ensures.written))

pub returns : goal.returns
returns g c =
    next-written (run_started c.args.inputs) (λ it. of_lines (lines_of_demands program_of c.args.granted (steps_of it.schedule) it.state)) _ c.in_ok-session.ensures.started
    (answer-as (ap (λ (ts : Schedule). of_lines (lines_of_demands program_of c.args.granted (steps_of ts) c.in_ok-session.field-0.session)) c.deref.ensures.value)
    (whole-written refl c.in_ok-write_demands.ensures.written))
