use Rattle.pv_laws_access.proofs.SealedRuns.{sealed-for_ever}
use Rattle.pv_laws_access.proofs.sealing.sealed_for_ever.Goals as goal

pub returns : goal.returns
returns c = sealed-for_ever
