use Rattle.pv_laws_states.proofs.ValidBySteps.{step-keeps_valid}
use Rattle.pv_laws_states.proofs.states.step_keeps_whole.Goals as goal

pub returns : goal.returns
returns c = step-keeps_valid
