use Rattle.pv_laws_steps.proofs.QuerySteps.{getppids-commute}
use Rattle.pv_laws_steps.proofs.asking.getppids_commute.Goals as goal

pub returns : goal.returns
returns c = getppids-commute
