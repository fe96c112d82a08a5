use Rattle.pv_laws_answers.proofs.LeastWitnesses.{ends}
use Rattle.pv_laws_answers.proofs.search.endings_happen.Goals as goal

pub returns : goal.returns
returns c = ends
