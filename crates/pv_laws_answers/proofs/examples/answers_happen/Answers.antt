use Rattle.pv_laws_answers.proofs.examples.answers_happen.Goals as goal
use Rattle.pv_laws_answers.proofs.AnswerExampleRuns.{answers-happen}

pub returns : goal.returns
returns c = answers-happen
