use Rattle.pv_laws_schedules.proofs.NeededPermissions.{needed-permissions}
use Rattle.pv_laws_schedules.proofs.policy.listed_permissions_are_needed.Goals as goal

pub returns : goal.returns
returns c = needed-permissions
