use Rattle.pv_laws_schedules.proofs.ReportedObservations.{accesses-happen}
use Rattle.pv_laws_schedules.proofs.access.listed_accesses_happen.Goals as goal

pub returns : goal.returns
returns c = accesses-happen
