use Rattle.pv_laws_answers.proofs.LeastWitnesses.{reported-steps}
use Rattle.pv_laws_answers.proofs.search.witnesses_are_least.Goals as goal

pub returns : goal.returns
returns c = reported-steps
