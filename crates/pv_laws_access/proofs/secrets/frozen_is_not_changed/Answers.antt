use Rattle.pv_laws_access.proofs.ClosedProcesses.{frozen-not_changed}
use Rattle.pv_laws_access.proofs.secrets.frozen_is_not_changed.Goals as goal

pub returns : goal.returns
returns c = frozen-not_changed
