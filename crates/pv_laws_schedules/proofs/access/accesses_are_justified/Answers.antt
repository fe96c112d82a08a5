use Rattle.pv_laws_schedules.proofs.JustifiedAccesses.{accesses-justified}
use Rattle.pv_laws_schedules.proofs.access.accesses_are_justified.Goals as goal

pub returns : goal.returns
returns c = accesses-justified
