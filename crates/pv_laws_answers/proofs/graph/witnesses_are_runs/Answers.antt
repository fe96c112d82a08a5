use Rattle.pv_laws_answers.proofs.GraphPaths.{witnesses-are_runs}
use Rattle.pv_laws_answers.proofs.graph.witnesses_are_runs.Goals as goal

pub returns : goal.returns
returns c = witnesses-are_runs
