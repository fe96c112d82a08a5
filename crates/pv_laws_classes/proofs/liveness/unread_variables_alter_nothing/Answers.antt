use Rattle.pv_laws_classes.proofs.LiveSteps.{unread-alter-nothing}
use Rattle.pv_laws_classes.proofs.liveness.unread_variables_alter_nothing.Goals as goal

pub returns : goal.returns
returns c = unread-alter-nothing
