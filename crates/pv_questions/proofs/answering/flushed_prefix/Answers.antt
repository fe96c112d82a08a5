use Rattle.pv_questions.proofs.FlushedAnswers.{other-unflushed, prefix-flushed, prefix-unflushed}
use Rattle.pv_questions.proofs.answering.flushed_prefix.Goals as goal

pub returns-in_err-flush-in-Memory : goal.returns-in_err-flush-in-Memory
returns-in_err-flush-in-Memory g c = prefix-unflushed c.in-Memory.is c.from_residual.ensures.1 c.in_err-flush-in-Memory.ensures.preserved c.in_err-flush-in-Memory.ensures.failed

pub returns-in_ok-flush-in-Memory : goal.returns-in_ok-flush-in-Memory
returns-in_ok-flush-in-Memory g c = prefix-flushed c.in-Memory.is c.in_ok-flush-in-Memory.ensures.preserved c.in_ok-flush-in-Memory.ensures.empty

pub returns-in_default : goal.returns-in_default
returns-in_default g c = other-unflushed c.args.failure c.in_default.not-Memory
