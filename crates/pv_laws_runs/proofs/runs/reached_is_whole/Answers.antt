use Rattle.pv_laws_runs.proofs.StartingStates.{reached-valid}
use Rattle.pv_laws_runs.proofs.runs.reached_is_whole.Goals as goal

pub returns : goal.returns
returns c = reached-valid
