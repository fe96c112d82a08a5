use Rattle.pv_laws_schedules.proofs.FindingReasons.{exact-reasons}
use Rattle.pv_laws_schedules.proofs.exposure.reasons_are_exact.Goals as goal

pub returns : goal.returns
returns c = exact-reasons
