use Rattle.pv_laws_steps.proofs.CommuteExampleRuns.{directories-happen}
use Rattle.pv_laws_steps.proofs.commute_examples.directories_happen.Goals as goal

pub returns : goal.returns
returns c = directories-happen
