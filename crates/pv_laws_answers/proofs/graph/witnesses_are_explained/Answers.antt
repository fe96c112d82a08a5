use Rattle.pv_laws_answers.proofs.ExplainedWitnesses.{witnesses-explained}
use Rattle.pv_laws_answers.proofs.graph.witnesses_are_explained.Goals as goal

pub returns : goal.returns
returns c = witnesses-explained
