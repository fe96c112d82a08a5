use Rattle.pv_laws_steps.proofs.CommuteExampleRuns.{descriptors-happen}
use Rattle.pv_laws_steps.proofs.commute_examples.descriptors_happen.Goals as goal

pub returns : goal.returns
returns c = descriptors-happen
