use Rattle.pv_laws_schedules.proofs.IdlePermissions.{idle-permissions}
use Rattle.pv_laws_schedules.proofs.policy.idle_permissions_are_idle.Goals as goal

pub returns : goal.returns
returns c = idle-permissions
