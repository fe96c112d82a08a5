use Rattle.pv_laws_access.proofs.SealedRuns.{frozen-for_ever}
use Rattle.pv_laws_access.proofs.sealing.frozen_for_ever.Goals as goal

pub returns : goal.returns
returns c = frozen-for_ever
