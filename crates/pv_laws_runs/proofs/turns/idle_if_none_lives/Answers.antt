use Rattle.pv_laws_runs.proofs.ScheduleEnds.{dead-idle, idle-dead}
use Rattle.pv_laws_runs.proofs.turns.idle_if_none_lives.Goals as goal

pub returns : goal.returns
returns c = λ bytes s is. (idle-dead bytes s is, dead-idle s)
