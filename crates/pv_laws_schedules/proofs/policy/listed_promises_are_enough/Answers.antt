use Rattle.pv_laws_schedules.proofs.NeededPromises.{enough-promises}
use Rattle.pv_laws_schedules.proofs.policy.listed_promises_are_enough.Goals as goal

pub returns : goal.returns
returns c = enough-promises
