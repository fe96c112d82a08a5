use Rattle.pv_laws_steps.proofs.DependentSteps.{steps-by_seen}
use Rattle.pv_laws_steps.proofs.seen.steps_by_seen.Goals as goal

pub returns : goal.returns
returns c = steps-by_seen
