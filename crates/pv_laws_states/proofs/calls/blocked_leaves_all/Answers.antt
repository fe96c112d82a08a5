use Rattle.pv_laws_states.proofs.CallOutcomes.{blocked-leaves}
use Rattle.pv_laws_states.proofs.calls.blocked_leaves_all.Goals as goal

pub returns : goal.returns
returns c = blocked-leaves
