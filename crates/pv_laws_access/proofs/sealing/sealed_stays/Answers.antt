use Rattle.pv_laws_access.proofs.SealedSteps.{sealed-stays}
use Rattle.pv_laws_access.proofs.sealing.sealed_stays.Goals as goal

pub returns : goal.returns
returns c = sealed-stays
