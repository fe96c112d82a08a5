use Rattle.pv_laws_schedules.proofs.NeededPermissions.{enough-permissions_reduced}
use Rattle.pv_laws_schedules.proofs.reduced_policy.listed_permissions_are_enough_reduced.Goals as goal

pub returns : goal.returns
returns c = enough-permissions_reduced
