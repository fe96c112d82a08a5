use Rattle.pv_laws_steps.proofs.InsideSteps.{where-inside}
use Rattle.pv_laws_steps.proofs.commuting.steps_stay_inside.Goals as goal

pub returns : goal.returns
returns c = where-inside
