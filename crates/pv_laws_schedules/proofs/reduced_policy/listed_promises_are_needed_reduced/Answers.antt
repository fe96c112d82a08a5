use Rattle.pv_laws_schedules.proofs.NeededPromises.{needed-promises_reduced}
use Rattle.pv_laws_schedules.proofs.reduced_policy.listed_promises_are_needed_reduced.Goals as goal

pub returns : goal.returns
returns c = needed-promises_reduced
