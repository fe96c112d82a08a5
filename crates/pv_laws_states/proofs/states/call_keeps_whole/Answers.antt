use Rattle.pv_laws_states.proofs.ValidBySteps.{call-keeps_valid}
use Rattle.pv_laws_states.proofs.states.call_keeps_whole.Goals as goal

pub returns : goal.returns
returns c = call-keeps_valid
