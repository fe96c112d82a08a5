use Rattle.pv_laws_schedules.proofs.NeededPromises.{needed-promises}
use Rattle.pv_laws_schedules.proofs.policy.listed_promises_are_needed.Goals as goal

pub returns : goal.returns
returns c = needed-promises
