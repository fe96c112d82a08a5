use Rattle.pv_laws_states.proofs.CallOutcomes.{others-kill}
use Rattle.pv_laws_states.proofs.calls.others_kill.Goals as goal

pub returns : goal.returns
returns c = others-kill
