use Rattle.pv_laws_schedules.proofs.LeastReasons.{least-reasons}
use Rattle.pv_laws_schedules.proofs.reasons.leaks_are_least_reasons.Goals as goal

pub returns : goal.returns
returns c = least-reasons
