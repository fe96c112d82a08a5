use Rattle.pv_laws_steps.proofs.GrowthExampleRuns.{cuts-happen}
use Rattle.pv_laws_steps.proofs.commute_examples.cuts_happen.Goals as goal

pub returns : goal.returns
returns c = cuts-happen
