use Rattle.pv_laws_states.proofs.ValidBySteps.{first-valid}
use Rattle.pv_laws_states.proofs.states.first_is_whole.Goals as goal

pub returns : goal.returns
returns c = first-valid
