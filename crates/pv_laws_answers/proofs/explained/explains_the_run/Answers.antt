use Rattle.pv_laws_answers.proofs.ExplainLines.{explained-run}
use Rattle.pv_laws_answers.proofs.explained.explains_the_run.Goals as goal

pub returns : goal.returns
returns c = explained-run
