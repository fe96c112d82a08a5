use Rattle.pv_laws_access.proofs.SealedSteps.{frozen-stays}
use Rattle.pv_laws_access.proofs.sealing.frozen_stays.Goals as goal

pub returns : goal.returns
returns c = frozen-stays
