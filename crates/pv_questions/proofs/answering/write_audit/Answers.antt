use Rattle.std.proofs.Common.{◌∙◌, ap, refl, sym}
use Rattle.pv_model.specs.Machine.{Bytes}
use Rattle.pv_model.specs.Sealed.{audit}
use Rattle.pv_questions.specs.Answers.{audit_answer, of_verdict}
use Rattle.pv_questions.proofs.WrittenAnswers.{answer-as, stopped-written, whole-written}
use Rattle.pv_questions.proofs.answering.write_audit.Goals as goal

pub returns-in-Some : goal.returns-in-Some
returns-in-Some g c =
    answer-as (ap (λ (bs : Bytes). of_verdict (audit c.args.session.now bs)) c.as_bytes.ensures.value ∙ sym (ap (audit_answer c.args.session.now) c.in-Some.is))
    c.write_audit_of.ensures

pub returns-in_err-write_report-in-None : goal.returns-in_err-write_report-in-None
returns-in_err-write_report-in-None g c =
    answer-as (sym (ap (audit_answer c.args.session.now) c.in-None.is)) (stopped-written c.from_residual.ensures.1 c.in_err-write_report-in-None.ensures)

pub returns-in_ok-write_report-in-None : goal.returns-in_ok-write_report-in-None
returns-in_ok-write_report-in-None g c = answer-as (sym (ap (audit_answer c.args.session.now) c.in-None.is)) (whole-written refl c.in_ok-write_report-in-None.ensures)
