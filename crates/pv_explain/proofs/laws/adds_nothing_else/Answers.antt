use Rattle.pv_explain.proofs.StepSequences.{adds-nothing-else}
use Rattle.pv_explain.proofs.laws.adds_nothing_else.Goals as goal

pub returns : goal.returns
returns c = adds-nothing-else
