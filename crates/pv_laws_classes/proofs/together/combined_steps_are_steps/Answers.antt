use Rattle.pv_laws_classes.proofs.CombinedSteps.{their-steps}
use Rattle.pv_laws_classes.proofs.together.combined_steps_are_steps.Goals as goal

pub returns : goal.returns
returns c = their-steps
