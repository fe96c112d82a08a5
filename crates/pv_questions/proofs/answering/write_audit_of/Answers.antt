use Rattle.std.proofs.Common.{ap, refl, sym}
use Rattle.pv_questions.specs.Answers.{of_verdict}
use Rattle.pv_questions.proofs.WrittenAnswers.{all-written, answer-as, failed-written, refusal-written}
use Rattle.pv_questions.proofs.answering.write_audit_of.Goals as goal

pub returns-in_err-write_verdict-in-Ok : goal.returns-in_err-write_verdict-in-Ok
returns-in_err-write_verdict-in-Ok g c = answer-as (ap of_verdict c.in-Ok.ensures.found) (failed-written c.from_residual.ensures.1 c.in_err-write_verdict-in-Ok.ensures)

pub returns-in_ok-write_verdict-in-Ok : goal.returns-in_ok-write_verdict-in-Ok
returns-in_ok-write_verdict-in-Ok g c = answer-as (ap of_verdict c.in-Ok.ensures.found) (all-written refl c.in_ok-write_verdict-in-Ok.ensures)

pub returns-in-Err : goal.returns-in-Err
returns-in-Err g c = refusal-written (sym (ap of_verdict c.in-Err.ensures.found))
