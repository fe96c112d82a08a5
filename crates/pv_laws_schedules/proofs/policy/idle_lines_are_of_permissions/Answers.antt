use Rattle.pv_laws_schedules.proofs.IdlePermissions.{idle-lines_of_permissions}
use Rattle.pv_laws_schedules.proofs.policy.idle_lines_are_of_permissions.Goals as goal

pub returns : goal.returns
returns c = idle-lines_of_permissions
