use Rattle.pv_laws_schedules.proofs.NeededPermissions.{enough-permissions}
use Rattle.pv_laws_schedules.proofs.policy.listed_permissions_are_enough.Goals as goal

pub returns : goal.returns
returns c = enough-permissions
