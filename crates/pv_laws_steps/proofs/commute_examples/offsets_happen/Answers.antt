use Rattle.pv_laws_steps.proofs.CommuteExampleRuns.{offsets-happen}
use Rattle.pv_laws_steps.proofs.commute_examples.offsets_happen.Goals as goal

pub returns : goal.returns
returns c = offsets-happen
