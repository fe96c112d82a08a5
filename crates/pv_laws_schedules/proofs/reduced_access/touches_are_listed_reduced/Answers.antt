use Rattle.pv_laws_schedules.proofs.ReducedAccesses.{touches-listed_reduced}
use Rattle.pv_laws_schedules.proofs.reduced_access.touches_are_listed_reduced.Goals as goal

pub returns : goal.returns
returns c = touches-listed_reduced
