use Rattle.pv_laws_classes.proofs.ClearedVariables.{cleared-represent}
use Rattle.pv_laws_classes.proofs.liveness.cleared_states_represent.Goals as goal

pub returns : goal.returns
returns c = cleared-represent
