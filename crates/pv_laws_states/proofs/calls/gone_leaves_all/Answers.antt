use Rattle.pv_laws_states.proofs.CallOutcomes.{gone-leaves}
use Rattle.pv_laws_states.proofs.calls.gone_leaves_all.Goals as goal

pub returns : goal.returns
returns c = gone-leaves
