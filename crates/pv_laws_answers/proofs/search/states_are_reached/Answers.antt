use Rattle.pv_laws_answers.proofs.LeastWitnesses.{found-states}
use Rattle.pv_laws_answers.proofs.search.states_are_reached.Goals as goal

pub returns : goal.returns
returns c = found-states
