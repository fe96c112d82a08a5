use Rattle.pv_laws_states.proofs.CollectedStates.{collect_nodes_all}
use Rattle.pv_laws_states.proofs.held.named_stay.Goals as goal

pub returns : goal.returns
returns c = collect_nodes_all
