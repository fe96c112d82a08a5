use Rattle.pv_laws_answers.proofs.ExampleRuns.{graph-happens}
use Rattle.pv_laws_answers.proofs.search_examples.graph_happens.Goals as goal

pub returns : goal.returns
returns c = graph-happens
