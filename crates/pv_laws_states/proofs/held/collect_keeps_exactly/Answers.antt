use Rattle.pv_laws_states.proofs.CollectedStates.{is_collected}
use Rattle.pv_laws_states.proofs.held.collect_keeps_exactly.Goals as goal

pub returns : goal.returns
returns c = is_collected
