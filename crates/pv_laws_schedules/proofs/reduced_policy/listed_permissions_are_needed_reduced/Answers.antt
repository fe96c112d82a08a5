use Rattle.pv_laws_schedules.proofs.NeededPermissions.{needed-permissions_reduced}
use Rattle.pv_laws_schedules.proofs.reduced_policy.listed_permissions_are_needed_reduced.Goals as goal

pub returns : goal.returns
returns c = needed-permissions_reduced
