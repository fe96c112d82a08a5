use Rattle.pv_laws_schedules.proofs.IdlePromises.{idle-promises}
use Rattle.pv_laws_schedules.proofs.policy.idle_promises_are_idle.Goals as goal

pub returns : goal.returns
returns c = idle-promises
