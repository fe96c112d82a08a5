use Rattle.pv_laws_schedules.proofs.NeededPromises.{enough-promises_reduced}
use Rattle.pv_laws_schedules.proofs.reduced_policy.listed_promises_are_enough_reduced.Goals as goal

pub returns : goal.returns
returns c = enough-promises_reduced
