use Rattle.pv_laws_steps.proofs.CommuteExampleRuns.{writes-happen}
use Rattle.pv_laws_steps.proofs.commute_examples.writes_happen.Goals as goal

pub returns : goal.returns
returns c = writes-happen
