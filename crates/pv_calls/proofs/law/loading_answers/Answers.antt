use Rattle.pv_calls.proofs.ExecveOutcomes.{loading-answer}
use Rattle.pv_calls.proofs.law.loading_answers.Goals as goal

pub returns : goal.returns
returns c = loading-answer
