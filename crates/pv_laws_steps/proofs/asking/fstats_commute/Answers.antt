use Rattle.pv_laws_steps.proofs.QuerySteps.{fstats-commute}
use Rattle.pv_laws_steps.proofs.asking.fstats_commute.Goals as goal

pub returns : goal.returns
returns c = fstats-commute
