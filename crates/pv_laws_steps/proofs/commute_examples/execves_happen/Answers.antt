use Rattle.pv_laws_steps.proofs.UnveilExampleRuns.{execves-happen}
use Rattle.pv_laws_steps.proofs.commute_examples.execves_happen.Goals as goal

pub returns : goal.returns
returns c = execves-happen
