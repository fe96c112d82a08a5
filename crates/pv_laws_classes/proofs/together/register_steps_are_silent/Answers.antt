use Rattle.pv_laws_classes.proofs.RegisterSteps.{registers-silent}
use Rattle.pv_laws_classes.proofs.together.register_steps_are_silent.Goals as goal

pub returns : goal.returns
returns c = registers-silent
