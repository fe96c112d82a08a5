use Rattle.pv_laws_steps.proofs.IndependentSteps.{lone-commute}
use Rattle.pv_laws_steps.proofs.commuting.lone_steps_commute.Goals as goal

pub returns : goal.returns
returns c = lone-commute
