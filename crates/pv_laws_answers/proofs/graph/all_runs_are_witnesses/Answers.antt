use Rattle.pv_laws_answers.proofs.GraphPaths.{all-runs-are_witnesses}
use Rattle.pv_laws_answers.proofs.graph.all_runs_are_witnesses.Goals as goal

pub returns : goal.returns
returns c = all-runs-are_witnesses
