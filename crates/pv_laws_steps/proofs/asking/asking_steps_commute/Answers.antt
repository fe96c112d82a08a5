use Rattle.pv_laws_steps.proofs.QuerySteps.{asks-commute}
use Rattle.pv_laws_steps.proofs.asking.asking_steps_commute.Goals as goal

pub returns : goal.returns
returns c = asks-commute
