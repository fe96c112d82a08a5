use Rattle.pv_laws_access.proofs.DescentExampleRuns.{descent-happens}
use Rattle.pv_laws_access.proofs.sandbox_examples.descent_happens.Goals as goal

pub returns : goal.returns
returns c = descent-happens
