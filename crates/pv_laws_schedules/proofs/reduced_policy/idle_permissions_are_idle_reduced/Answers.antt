use Rattle.pv_laws_schedules.proofs.IdlePermissions.{idle-permissions_reduced}
use Rattle.pv_laws_schedules.proofs.reduced_policy.idle_permissions_are_idle_reduced.Goals as goal

pub returns : goal.returns
returns c = idle-permissions_reduced
