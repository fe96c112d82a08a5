use Rattle.pv_laws_classes.proofs.RenumberedSteps.{renumbered-steps}
use Rattle.pv_laws_classes.proofs.renumbering.renumbered_steps_answer_alike.Goals as goal

pub returns : goal.returns
returns c = renumbered-steps
