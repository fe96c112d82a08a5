use Rattle.pv_laws_schedules.proofs.IdlePromises.{idle-promises_reduced}
use Rattle.pv_laws_schedules.proofs.reduced_policy.idle_promises_are_idle_reduced.Goals as goal

pub returns : goal.returns
returns c = idle-promises_reduced
