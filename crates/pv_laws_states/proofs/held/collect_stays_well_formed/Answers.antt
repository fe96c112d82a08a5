use Rattle.pv_laws_states.proofs.CollectedStates.{collect-well_formed}
use Rattle.pv_laws_states.proofs.held.collect_stays_well_formed.Goals as goal

pub returns : goal.returns
returns c = collect-well_formed
