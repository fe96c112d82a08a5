use Rattle.pv_laws_classes.proofs.LiveSteps.{closed-accepts}
use Rattle.pv_laws_classes.proofs.liveness.closed_tests_accept_read_variables.Goals as goal

pub returns : goal.returns
returns c = closed-accepts
