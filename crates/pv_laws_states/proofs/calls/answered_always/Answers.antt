use Rattle.pv_laws_states.proofs.CallOutcomes.{answered-always}
use Rattle.pv_laws_states.proofs.calls.answered_always.Goals as goal

pub returns : goal.returns
returns c = answered-always
