use Rattle.pv_laws_classes.proofs.ReducedSchedules.{reaches-each}
use Rattle.pv_laws_classes.proofs.reduced.reduced_schedules_reach_each.Goals as goal

pub returns : goal.returns
returns c = reaches-each
