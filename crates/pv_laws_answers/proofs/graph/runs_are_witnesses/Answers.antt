use Rattle.pv_laws_answers.proofs.GraphPaths.{runs-are_witnesses}
use Rattle.pv_laws_answers.proofs.graph.runs_are_witnesses.Goals as goal

pub returns : goal.returns
returns c = runs-are_witnesses
