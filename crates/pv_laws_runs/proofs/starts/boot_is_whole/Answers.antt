use Rattle.pv_laws_runs.proofs.StartingStates.{boot-valid}
use Rattle.pv_laws_runs.proofs.starts.boot_is_whole.Goals as goal

pub returns : goal.returns
returns c = boot-valid
