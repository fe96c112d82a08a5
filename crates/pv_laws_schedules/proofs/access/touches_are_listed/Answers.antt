use Rattle.pv_laws_schedules.proofs.ListedTouches.{touches-listed}
use Rattle.pv_laws_schedules.proofs.access.touches_are_listed.Goals as goal

pub returns : goal.returns
returns c = touches-listed
