use Rattle.std.proofs.Common.{◌∙◌, ap, refl, sym, Option, Some}
use Rattle.std.specs.Borrow.{Bor}
use Rattle.std.specs.Prelude.{option_map}
use Rattle.pv_model.specs.Machine.{Bytes}
use Rattle.pv_questions.specs.Answers.{of_audit}
use Rattle.pv_questions.specs.Reasons.{audit_reasons}
use Rattle.pv_questions.proofs.WrittenAnswers.{answer-as, stopped-written, whole-written}
use Rattle.pv_questions.proofs.answering.write_every_reason.Goals as goal

pub returns-in-Some : goal.returns-in-Some
returns-in-Some g c =
    answer-as
    (ap (λ (bs : Bytes). of_audit (audit_reasons c.args.session.now (Some bs))) c.as_bytes.ensures.value
    ∙ sym (ap (λ (o : Option (Bor Bytes)). of_audit (audit_reasons c.args.session.now (option_map (λ p. p.now) o))) c.in-Some.is))
    c.write_reasons_of.ensures

pub returns-in_err-write_reasons_report-in-None : goal.returns-in_err-write_reasons_report-in-None
returns-in_err-write_reasons_report-in-None g c =
    answer-as (sym (ap (λ (o : Option (Bor Bytes)). of_audit (audit_reasons c.args.session.now (option_map (λ p. p.now) o))) c.in-None.is))
    (stopped-written c.from_residual.ensures.1 c.in_err-write_reasons_report-in-None.ensures)

pub returns-in_ok-write_reasons_report-in-None : goal.returns-in_ok-write_reasons_report-in-None
returns-in_ok-write_reasons_report-in-None g c =
    answer-as (sym (ap (λ (o : Option (Bor Bytes)). of_audit (audit_reasons c.args.session.now (option_map (λ p. p.now) o))) c.in-None.is))
    (whole-written refl c.in_ok-write_reasons_report-in-None.ensures)
