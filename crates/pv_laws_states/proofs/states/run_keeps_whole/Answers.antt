use Rattle.pv_laws_states.proofs.ValidBySteps.{run-keeps_valid}
use Rattle.pv_laws_states.proofs.states.run_keeps_whole.Goals as goal

pub returns : goal.returns
returns c = run-keeps_valid
