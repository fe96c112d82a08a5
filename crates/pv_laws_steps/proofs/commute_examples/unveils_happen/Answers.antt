use Rattle.pv_laws_steps.proofs.UnveilExampleRuns.{unveils-happen}
use Rattle.pv_laws_steps.proofs.commute_examples.unveils_happen.Goals as goal

pub returns : goal.returns
returns c = unveils-happen
