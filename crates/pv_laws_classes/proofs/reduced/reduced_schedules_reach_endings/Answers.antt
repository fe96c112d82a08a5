use Rattle.pv_laws_classes.proofs.ReducedSchedules.{reaches-endings}
use Rattle.pv_laws_classes.proofs.reduced.reduced_schedules_reach_endings.Goals as goal

pub returns : goal.returns
returns c = reaches-endings
