use Rattle.pv_laws_access.proofs.Verdicts.{frozen-tested}
use Rattle.pv_laws_access.proofs.reasons.frozen_to_is_tested.Goals as goal

pub returns : goal.returns
returns c = frozen-tested
