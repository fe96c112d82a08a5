use Rattle.pv_laws_classes.proofs.LiveSteps.{rejected-alter-nothing}
use Rattle.pv_laws_classes.proofs.liveness.rejected_variables_alter_nothing.Goals as goal

pub returns : goal.returns
returns c = rejected-alter-nothing
