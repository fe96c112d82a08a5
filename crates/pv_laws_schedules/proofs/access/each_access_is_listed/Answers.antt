use Rattle.pv_laws_schedules.proofs.ListedTouches.{each-listed}
use Rattle.pv_laws_schedules.proofs.access.each_access_is_listed.Goals as goal

pub returns : goal.returns
returns c = each-listed
