use Rattle.pv_laws_answers.proofs.ExplainLines.{explained-text}
use Rattle.pv_laws_answers.proofs.explained.explains_the_text.Goals as goal

pub returns : goal.returns
returns c = explained-text
