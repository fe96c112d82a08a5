use Rattle.pv_laws_access.proofs.ClosedProcesses.{sealed-not_read}
use Rattle.pv_laws_access.proofs.secrets.sealed_is_not_read.Goals as goal

pub returns : goal.returns
returns c = sealed-not_read
