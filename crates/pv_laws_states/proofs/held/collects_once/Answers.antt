use Rattle.pv_laws_states.proofs.CollectedStates.{collect_once}
use Rattle.pv_laws_states.proofs.held.collects_once.Goals as goal

pub returns : goal.returns
returns c = collect_once
