use Rattle.pv_laws_access.proofs.ClosedProcesses.{sealed-answers_alike}
use Rattle.pv_laws_access.proofs.secrets.sealed_answers_alike.Goals as goal

pub returns : goal.returns
returns c = sealed-answers_alike
