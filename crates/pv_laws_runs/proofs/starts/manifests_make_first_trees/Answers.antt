use Rattle.pv_laws_runs.proofs.StartingStates.{made-first}
use Rattle.pv_laws_runs.proofs.starts.manifests_make_first_trees.Goals as goal

pub returns : goal.returns
returns c = made-first
