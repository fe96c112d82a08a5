use Rattle.pv_questions.proofs.FlushedAnswers.{all-flushed, all-unflushed, end-as}
use Rattle.pv_questions.proofs.answering.flushed.Goals as goal

pub returns-in_err-flush-in-Ok : goal.returns-in_err-flush-in-Ok
returns-in_err-flush-in-Ok g c = all-unflushed c.in-Ok.is c.from_residual.ensures.1 c.in_err-flush-in-Ok.ensures.preserved c.in_err-flush-in-Ok.ensures.failed

pub returns-in_ok-flush-in-Ok : goal.returns-in_ok-flush-in-Ok
returns-in_ok-flush-in-Ok g c = all-flushed _ c.in-Ok.is c.result.ensures c.in_ok-flush-in-Ok.ensures.preserved c.in_ok-flush-in-Ok.ensures.empty

pub returns-in-Err : goal.returns-in-Err
returns-in-Err g c = end-as c.in-Err.is c.flushed_prefix.ensures
