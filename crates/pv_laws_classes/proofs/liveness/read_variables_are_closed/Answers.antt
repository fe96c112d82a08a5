use Rattle.pv_laws_classes.proofs.LiveSteps.{read-is-closed}
use Rattle.pv_laws_classes.proofs.liveness.read_variables_are_closed.Goals as goal

pub returns : goal.returns
returns c = read-is-closed
