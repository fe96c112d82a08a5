use Rattle.pv_laws_runs.proofs.StartingStates.{held-first}
use Rattle.pv_laws_runs.proofs.starts.images_hold_first_trees.Goals as goal

pub returns : goal.returns
returns c = held-first
