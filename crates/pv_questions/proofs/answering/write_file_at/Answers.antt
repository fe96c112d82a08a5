use Rattle.std.proofs.Common.{ap, refl, sym}
use Rattle.pv_questions.specs.Answers.{of_file}
use Rattle.pv_questions.proofs.WrittenAnswers.{all-written, answer-as, failed-written, refusal-written}
use Rattle.pv_questions.proofs.answering.write_file_at.Goals as goal

pub returns-in_err-write_file-in-Ok : goal.returns-in_err-write_file-in-Ok
returns-in_err-write_file-in-Ok g c = answer-as (sym (ap of_file c.in-Ok.ensures.found.1)) (failed-written c.from_residual.ensures.1 c.in_err-write_file-in-Ok.ensures)

pub returns-in_ok-write_file-in-Ok : goal.returns-in_ok-write_file-in-Ok
returns-in_ok-write_file-in-Ok g c = answer-as (sym (ap of_file c.in-Ok.ensures.found.1)) (all-written refl c.in_ok-write_file-in-Ok.ensures)

pub returns-in-Err : goal.returns-in-Err
returns-in-Err g c = refusal-written (ap of_file c.in-Err.ensures.refused)
